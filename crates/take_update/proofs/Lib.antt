-- Laws of taking an Update.
pub mod Updating
