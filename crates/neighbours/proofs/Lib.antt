-- Laws of the neighbours' code.
pub mod Branches
