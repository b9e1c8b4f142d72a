-- The laws and the theorems of a whole trip.
pub mod Chain
pub mod Passed
pub mod Answers
pub mod Refused
pub mod Written
pub mod Verdict
pub mod Theorems
