-- The definitions of windows and of the sweep.
pub mod Window
pub mod Sweep
pub mod Inside
pub mod Outcomes
pub mod Runs
