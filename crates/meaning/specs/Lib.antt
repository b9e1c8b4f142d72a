-- The release of the meaning.
pub mod Meaning
