-- The definitions of the reading of the input.
pub mod Input
pub mod Inside
