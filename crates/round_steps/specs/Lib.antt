-- The definitions of the theory of rounds, in the order in which to read them.
pub mod Arcs
pub mod RoundSteps
