-- Laws of the text of a frame.
pub mod Fields
pub mod Again
