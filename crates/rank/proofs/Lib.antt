-- The laws of a pivot, and of a slice that is split and ranked on both sides.
mod Splitting
mod Sides
mod Middle
