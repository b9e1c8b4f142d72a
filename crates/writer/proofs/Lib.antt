-- The laws of a stream that is written: its bytes and their number, what is refused, the buffer, and the round trips.
pub mod Streams
pub mod Chain
pub mod Refused
pub mod Answers
pub mod WrittenRead
pub mod ReadWritten
pub mod Theorems
