-- The theorems about the calls that rest on those of `specs/Calls` and `specs/FromC`, and that refusals are told apart.
pub mod Refusals
pub mod RefusedExactlyWhen
pub mod Writing
