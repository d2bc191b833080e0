-- The answers of the exported functions.
pub mod Exported
pub mod BalanceExamples
