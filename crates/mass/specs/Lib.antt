-- The definitions of the mass step.
pub mod Mass
pub mod Inside
pub mod Outcomes
