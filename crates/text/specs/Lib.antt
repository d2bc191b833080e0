-- The definitions of text.
pub mod Decimal
pub mod Letters
