-- Laws of taking an acknowledgment.
pub mod Acknowledging
