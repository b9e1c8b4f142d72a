-- The laws of the percentile.
pub mod Refusals
pub mod Interpolation
pub mod Front
pub mod Theorems
