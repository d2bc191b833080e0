-- Laws of commit.
pub mod Recording
