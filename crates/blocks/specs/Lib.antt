-- What the steps of feeding a block promise each other.
pub mod Inside
