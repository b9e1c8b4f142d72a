-- The definitions of the ground floor: the paper's numbers, one second's ranges, the plan, and the words that every definition uses.
pub mod Limits
pub mod Refusal
pub mod Roads
pub mod Second
pub mod Plan
pub mod Words
pub mod Fraction
pub mod InFront
