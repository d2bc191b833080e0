-- Laws of the round in a gateway's header.
pub mod Awaiting
pub mod Changing
