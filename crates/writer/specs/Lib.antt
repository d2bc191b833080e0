-- What the functions inside this crate are told and promise. No call's own contract cites a file of it.
pub mod Inside
