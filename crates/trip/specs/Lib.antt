-- The definitions of a whole trip: what is refused, the figures, the answer, the lent lanes, and the sixteen rules on its lanes.
pub mod Refusals
pub mod Trip
pub mod Lent
pub mod Outcomes
pub mod Sums
pub mod Rules
pub mod Same
