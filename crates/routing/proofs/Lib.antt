-- The laws of routing.
pub mod Theorems
pub mod Difference
pub mod Shape
pub mod Counting
pub mod Reading
pub mod FewArcs
