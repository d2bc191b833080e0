-- What it means to read and to write bytes of a lent slice.
pub mod Slice
pub mod Number
