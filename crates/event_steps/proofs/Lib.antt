-- The laws of the theory of events.
pub mod Acknowledging
pub mod OrderLaws
pub mod StepLaws
pub mod EventCounts
pub mod Conservation
pub mod Ordering
pub mod Addressing
pub mod Invariants
pub mod Uniqueness
pub mod QueueLaws
pub mod Histories
pub mod Effects
