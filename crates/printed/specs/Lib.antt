-- The definitions of what is printed.
pub mod Printed
