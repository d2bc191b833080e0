-- The laws of the listing.
pub mod Lines
pub mod Theorems
