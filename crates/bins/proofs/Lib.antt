-- The laws of the bins of a trip.
pub mod Joining
