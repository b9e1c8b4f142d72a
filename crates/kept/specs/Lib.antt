-- The definitions of kept seconds.
pub mod Kept
pub mod Inside
