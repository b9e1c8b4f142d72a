-- The definition of the verdict.
pub mod Verdict
