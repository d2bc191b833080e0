-- What contracts inside the repository cite beside the definitions. No reader has to believe it.
pub mod Frames
pub mod Putting
