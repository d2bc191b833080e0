-- The text of a frame.
pub mod Line
pub mod Inside
