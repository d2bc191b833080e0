-- The definitions of routing.
pub mod AtMostTwo
pub mod Figure2
pub mod Arcs
pub mod Answers
