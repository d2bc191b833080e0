-- The laws of decimal text.
pub mod Digits
pub mod Putting
pub mod Reading
