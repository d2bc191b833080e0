-- Laws of the test of soundness.
pub mod Passing
pub mod ByParts
