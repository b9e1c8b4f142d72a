-- The definitions of D and of the products.
pub mod D
pub mod Products
pub mod Outcomes
pub mod Inside
