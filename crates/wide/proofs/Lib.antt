-- The laws of two-word numbers: `Laws` for callers, `Halves` for the product.
pub mod Laws
