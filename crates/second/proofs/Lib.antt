-- The laws of a trip's lanes, for the crates that read them.
pub mod Lanes
pub mod Facts
pub mod EachLane
pub mod Values
pub mod Rows
