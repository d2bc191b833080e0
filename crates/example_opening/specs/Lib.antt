-- How the last example begins.
pub mod Inside
