-- The laws of words and numbers in bytes, and of writing them one behind the other.
pub mod Digits
pub mod Decimal
pub mod Behind
