-- The laws of the sorted list.
pub mod Laws
pub mod Cases
pub mod Exchange
