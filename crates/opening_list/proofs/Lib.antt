-- Laws and proofs of the opening list.
pub mod Checking
pub mod Entering
