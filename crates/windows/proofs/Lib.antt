-- The laws of figures and counts.
pub mod Exact
pub mod Band
pub mod PlanRanges
pub mod Classes
pub mod Parts
pub mod Counts
pub mod Theorems
