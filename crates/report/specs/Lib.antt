-- The definitions of the printed lines.
pub mod Lines
