-- The laws of a reader that is fed block by block.
pub mod EachLane
pub mod Carry
pub mod Offsets
pub mod InPlace
pub mod Feeding
pub mod Making
pub mod Reaching
pub mod Reached
pub mod Whole
pub mod Testing
pub mod Settled
pub mod Ending
