-- The definitions of the listing of arcs.
pub mod Output
