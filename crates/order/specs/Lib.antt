-- The sorted list, and the words of its theorems.
pub mod Sort
pub mod Order
pub mod Inside
