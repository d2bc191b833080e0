-- Laws of the input and of the whole output.
pub mod Input
pub mod Whole
