-- The definitions of the sixteen reasons, and their numbers.
pub mod Numbers
pub mod Reasons
pub mod Inside
