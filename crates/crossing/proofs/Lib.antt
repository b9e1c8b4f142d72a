-- The laws of what crosses to C.
mod Readings
pub mod Theorems
