-- Laws and proofs of what several calls share.
pub mod Stores
pub mod PlacedLaws
pub mod StoredFrames
pub mod StoredSent
pub mod WriterLaws
