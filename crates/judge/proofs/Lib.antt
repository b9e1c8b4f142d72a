-- The law of what is printed of the input.
mod Whole
