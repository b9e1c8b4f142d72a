-- The laws of kept seconds.
pub mod Keeping
