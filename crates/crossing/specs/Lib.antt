-- How the library's answers cross to C.
pub mod Concentration
pub mod Items
pub mod Accelerations
pub mod Outcomes
