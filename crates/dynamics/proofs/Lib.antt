-- The laws of the dynamics of a trip.
pub mod Room
pub mod Bin
pub mod Places
pub mod Three
