-- The laws of finding windows.
pub mod Ending
pub mod Keeps
