-- The laws of the numbers of refusal, of a stream's items, of the walk over them, cut in two or whole, and of the lanes.
pub mod Numbering
pub mod Numbers
pub mod Offsets
pub mod Walking
pub mod Answers
pub mod Lanes
pub mod Writing
pub mod Refusals
pub mod Splitting
pub mod Theorems
