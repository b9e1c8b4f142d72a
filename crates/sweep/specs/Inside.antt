-- What the steps inside the sweep may take for granted, once the call is accepted.
use Rattle.std.specs.Prelude.{ℕ, ◌+◌, ◌-◌, ◌^◌, ◌≤◌, ◌<◌, Bool, false, ◌||◌, List, leb, ltb, eqb, length, get_or}
use Rattle.base.specs.declared.refusal.Refused.{Refused}
use Rattle.base.specs.Refusal.{number_of}
use Rattle.base.specs.Words.{sum}
use Rattle.sweep.specs.declared.SweepState.{SweepState}
use Rattle.sweep.specs.declared.Swept.{Swept}
use Rattle.sweep.specs.Sweep.{beginning}
use Rattle.sweep.specs.Runs.{Standing}

-- kept masses whose numbers fit a u16 and whose sum fits a u32
pub record Measured (co2 : List ℕ) : Type 0 where
  pub few : length co2 < 2 ^ 16
  pub light : sum co2 < 2 ^ 32

-- what a run asks: a reference of at least 1, masses that fit, a state that stands where the rule says, a place for each end
pub record Ready (reference : ℕ) (co2 : List ℕ) (room : ℕ) (s : SweepState) : Type 0 where
  pub positive : 1 ≤ reference
  pub masses : Measured co2
  pub stands : Standing reference co2 s
  pub places : length co2 ≤ room

-- the tests of the last second dropped and of the last second taken, from the mass that is left
abbrev pub closed_rightly : ℕ → List ℕ → ℕ → ℕ → Bool
closed_rightly reference co2 dropped mass = eqb dropped 0 || leb reference (mass + get_or co2 (dropped - 1) 0)

abbrev pub needed_last : ℕ → List ℕ → ℕ → ℕ → Bool
needed_last reference co2 taken mass = eqb taken 0 || ltb mass (reference + get_or co2 (taken - 1) 0)

-- the answer of a refusal as the code holds it: its number and place, and zeros
abbrev pub refused_with : Refused → Swept
refused_with refused =
    record { refusal = number_of refused.refusal; place = refused.place; state = beginning; moves = 0; over = false }
