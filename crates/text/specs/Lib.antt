-- The definitions of words and numbers in bytes.
pub mod Text
pub mod Inside
