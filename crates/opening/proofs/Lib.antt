-- Laws and proofs of set up.
pub mod SetUpBranches
