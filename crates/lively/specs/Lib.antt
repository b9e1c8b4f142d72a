-- The definitions of too lively and too dull.
pub mod Lively
