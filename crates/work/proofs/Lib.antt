-- Laws and proofs of work.
pub mod SeveralEvents
