-- The laws of the verdict.
pub mod Numbers
pub mod Masks
pub mod Bits
pub mod Laws
