-- Laws of packed numbers.
pub mod Packing
