-- Lists, and values by gateway number, as the definitions of every crate speak of them.
pub mod Lists
pub mod Families
pub mod Inside
