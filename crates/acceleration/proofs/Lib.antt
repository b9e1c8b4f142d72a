-- The laws of D and of the products.
pub mod Neighbours
pub mod Rise
pub mod Writing
pub mod Refusals
pub mod Theorems
