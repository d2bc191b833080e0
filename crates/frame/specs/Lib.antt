-- Frames, in the order of document 01's section of that name.
pub mod Layout
pub mod Kinds
pub mod Writing
pub mod Reasons
pub mod Lamps
pub mod Limits
pub mod Claims
pub mod WritingExamples
pub mod Inside
