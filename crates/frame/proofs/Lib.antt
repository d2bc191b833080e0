-- Laws of frames.
pub mod Widths
pub mod Presence
pub mod FormNumbers
pub mod Walking
pub mod Turning
pub mod Values
pub mod Output
pub mod Accepted
pub mod Cutting
pub mod ReadFirst
pub mod WriteFirst
pub mod Laws
pub mod WritingTable
pub mod Branches
pub mod Sizes
pub mod PieceBytes
