-- The definitions of the theory of the optimistic run, in the order in which to read them.
pub mod Claims
pub mod Worlds
