-- The laws of the tallies and counts.
pub mod Tallies
pub mod Seconds
pub mod Gaps
pub mod SomeSecond
