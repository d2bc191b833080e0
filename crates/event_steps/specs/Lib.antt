-- The definitions of the theory of events, in the order in which to read them.
pub mod Models
pub mod SingleQueue
pub mod Gateways
pub mod EventSteps
