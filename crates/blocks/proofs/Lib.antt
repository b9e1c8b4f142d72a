-- The laws of the steps of feeding a block.
pub mod Copying
pub mod Going
pub mod Taking
pub mod Joining
