-- Laws of the places of a memory: searches, counts, changes.
pub mod Positions
pub mod Counts
pub mod Changing
pub mod LeastHours
pub mod Found
