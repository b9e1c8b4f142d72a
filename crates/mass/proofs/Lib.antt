-- The laws of the mass step.
pub mod Ranges
pub mod Products
pub mod Inputs
pub mod WholePart
pub mod Theorems
