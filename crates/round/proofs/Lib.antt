-- Laws of the round at a gateway.
pub mod Stepping
