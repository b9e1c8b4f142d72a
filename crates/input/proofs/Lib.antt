-- The laws of the reading of the input.
pub mod Blocks
mod Settling
mod Reading
