-- The definitions of the tallies and of the counts: sums over sets of seconds, and facts about some of them.
pub mod Numbers
pub mod Sets
pub mod Tally
pub mod Counts
pub mod Facts
pub mod Inside
