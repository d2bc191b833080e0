-- What contracts inside the repository cite beside the definitions. No reader has to believe it.
pub mod Finding
pub mod Booking
pub mod Walking
