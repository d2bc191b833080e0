-- Laws of the example's buffers.
pub mod Written
