-- Laws of taking a cancel.
pub mod CountAlone
pub mod CancelTakings
pub mod LastPositions
pub mod TakingOut
