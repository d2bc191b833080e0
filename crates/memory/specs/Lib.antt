-- A gateway as a record of lists, its bytes in the lent memory, and when memory is sound.
pub mod Layout
pub mod Records
pub mod Ranges
pub mod Codec
pub mod Validity
pub mod Soundness
pub mod Claims
pub mod Inside
