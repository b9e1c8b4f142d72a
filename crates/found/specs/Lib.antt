-- The definitions of a trip's kept seconds and windows.
pub mod Found
pub mod Inside
