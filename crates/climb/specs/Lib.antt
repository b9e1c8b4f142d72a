-- The definitions of corrected altitude, climb, and the first and last altitude.
pub mod Corrected
pub mod Climb
pub mod Ends
pub mod Inside
