-- The definitions of the bins of a trip.
pub mod Bins
pub mod Inside
