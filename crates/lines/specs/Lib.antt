-- What the example's parts are told and promise.
pub mod Inside
