-- What the private steps of the ranking promise.
pub mod Inside
