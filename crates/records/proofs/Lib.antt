-- Laws and proofs of reading a record.
pub mod EventBranches
pub mod EventParts
pub mod EventEnds
pub mod EventNumbers
pub mod PassedEvents
pub mod TakenRest
pub mod WrittenEvents
pub mod HistoryLaws
pub mod Booking
pub mod GoodEvents
pub mod BalanceTable
