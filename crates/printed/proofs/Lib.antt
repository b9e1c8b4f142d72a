-- The laws of what is printed.
pub mod Fronts
pub mod Texts
