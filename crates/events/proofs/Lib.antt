-- Laws and proofs of doing an event.
pub mod EventDone
pub mod NextPending
pub mod WorkedLaws
