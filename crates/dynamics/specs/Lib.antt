-- The definitions of the dynamics of a trip.
pub mod Dynamics
pub mod Inside
