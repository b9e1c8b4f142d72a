-- The definitions of the percentile.
pub mod Percentile
pub mod Outcomes
pub mod Inside
