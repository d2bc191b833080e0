-- Laws of taking a Start.
pub mod Starting
