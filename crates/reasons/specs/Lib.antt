-- The definitions of reasons in words.
pub mod Words
