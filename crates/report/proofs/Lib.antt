-- The laws of the printed lines.
pub mod Fitting
pub mod Lengths
pub mod Theorems
