-- Laws of what an event sends.
pub mod SendingRoom
