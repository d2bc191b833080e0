-- Laws of a round's frames to a gateway's neighbours.
pub mod Announcing
pub mod Neighbours
