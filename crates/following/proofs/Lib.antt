-- Laws of the test of neighbours.
pub mod Following
