-- Laws of the tests of validity.
pub mod Deciding
