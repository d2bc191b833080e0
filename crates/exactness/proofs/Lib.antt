-- Laws of the tests of a place's bytes.
pub mod ByFields
pub mod SameBytes
