-- The lamp model, in the order of document 01's section of that name.
pub mod Messages
pub mod Doing
pub mod EventOrder
pub mod Claims
