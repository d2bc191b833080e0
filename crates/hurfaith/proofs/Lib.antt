-- Laws and proofs of the exported functions.
pub mod FrameSizes
pub mod WrittenSizes
pub mod TakenSizes
pub mod Packing
pub mod ReadBacks
pub mod Routing
pub mod LampPlaces
pub mod ViewSizes
pub mod Balancing
pub mod BalanceTable
