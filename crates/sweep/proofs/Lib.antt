-- The laws of windows and of the sweep.
pub mod Prefix
pub mod Moves
pub mod Reached
pub mod Local
pub mod Refusals
pub mod Lists
pub mod Windows
pub mod Finished
pub mod Theorems
