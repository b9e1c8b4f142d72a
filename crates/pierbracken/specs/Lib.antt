-- The theorems about the whole, by the demand of the paper that they serve; each proof cites that of the crate below.
pub mod Proved
pub mod Calls
pub mod FromC
pub mod RefusedExactlyWhen
pub mod NothingElseWritten
pub mod Windows
pub mod Verdict
pub mod Band
pub mod Sums
pub mod Dynamics
pub mod Blocks
pub mod Writing
pub mod Examples
