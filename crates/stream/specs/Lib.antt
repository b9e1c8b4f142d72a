-- The definitions of the trip stream: its items, the first bad one, and the lanes that are read from it.
pub mod Items
pub mod Reading
pub mod Inside
pub mod Outcomes
