-- What the program prints.
pub mod Judged
pub mod Inside
