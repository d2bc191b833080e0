-- Laws of parts, writes and numbers as bytes.
pub mod Writes
pub mod Readings
pub mod Standing
pub mod Numbers
pub mod Equality
pub mod Putting
pub mod Lent
pub mod Copies
pub mod Runs
