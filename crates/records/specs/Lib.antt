-- A record, read event by event, and balanced.
pub mod Events
pub mod Histories
pub mod Balancing
pub mod Claims
pub mod ExampleRecords
pub mod BalanceExamples
pub mod Inside
