-- Laws of taking a plain message.
pub mod PlainTakings
