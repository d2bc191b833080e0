-- Laws of taking an Lvt.
pub mod Arriving
