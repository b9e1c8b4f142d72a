-- The definitions of what a window is judged by, and of the counts.
pub mod Figure
pub mod Counts
pub mod Inside
