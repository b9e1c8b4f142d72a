-- The definitions of a stream that is written: the stream of a plan and lanes, what is refused, the answer, the buffer, and what is read back.
pub mod Writing
pub mod Outcomes
pub mod Back
pub mod Inside
