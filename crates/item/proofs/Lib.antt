-- The laws of numbers in bytes, read and written, of the table of kinds, of one item, and of an item with more bytes behind it.
pub mod Numbers
pub mod Signs
pub mod Encoding
pub mod Table
pub mod Fronts
pub mod Views
pub mod Seconds
pub mod Offsets
pub mod Written
pub mod Prefix
pub mod Refused
pub mod RoundTrip
