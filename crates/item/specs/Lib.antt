-- The definitions of the trip stream's items: the format, and one item from the front of some bytes.
pub mod Format
pub mod Item
pub mod Outcomes
pub mod Inside
