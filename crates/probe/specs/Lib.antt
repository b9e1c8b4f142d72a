-- What the opened leaves answer.
pub mod Window
