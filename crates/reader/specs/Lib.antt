-- The definitions of a reader of a stream that arrives in blocks: where it stands, what feeding and ending it mean, and which readers a stream leads to.
pub mod Reader
pub mod Inside
pub mod Blocks
pub mod Reached
