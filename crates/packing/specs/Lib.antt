-- How an answer of several numbers goes to programs in C and other languages.
pub mod Packed
