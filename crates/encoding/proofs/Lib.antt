-- Laws of writing a place.
pub mod Lamps
