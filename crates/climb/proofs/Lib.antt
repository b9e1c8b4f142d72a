-- The laws of altitudes, of the climb, and of the first and last altitude.
pub mod Altitudes
pub mod Steps
pub mod Ends
