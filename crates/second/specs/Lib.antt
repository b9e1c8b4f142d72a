-- The definitions of a second: its bin, the lanes of a trip, their ranges, and what is refused of them.
pub mod Row
pub mod Bins
pub mod Lanes
pub mod Facts
pub mod Same
pub mod Inside
