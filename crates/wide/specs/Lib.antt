-- The number that two words stand for: inside the exact comparisons.
pub mod Inside
