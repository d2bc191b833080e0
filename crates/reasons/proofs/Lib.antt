-- Laws of reasons in words.
pub mod Putting
