-- The views of a record: what each reader is to see of it, as values and as bytes, and the call.
pub mod Fields
pub mod Bytes
pub mod Viewing
pub mod Secrecy
pub mod Claims
pub mod Examples
pub mod Inside
