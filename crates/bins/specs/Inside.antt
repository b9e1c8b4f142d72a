-- What the steps inside come to, and what they may take for granted.
use Rattle.std.specs.Prelude.{ℕ, ◌≤◌, ◌≡◌, List, length, get_or}
use Rattle.base.specs.Limits.{trip_limit}
use Rattle.base.specs.Roads.{of_each}
use Rattle.tally.specs.declared.Tally.{Tally}
use Rattle.tally.specs.Tally.{no_seconds}
use Rattle.dynamics.specs.declared.Figures.{Figures}
use Rattle.bins.specs.declared.Bin.{Bin}
use Rattle.bins.specs.Bins.{joined}

-- no products
abbrev pub no_figures : Figures
no_figures = record { m = 0; t = 0; q = 0 }

-- the three bins from their tallies and dynamics
unfoldable pub joined_all : List Tally → List Figures → List Bin
joined_all tallies figures = of_each (λ bin. joined (get_or tallies bin no_seconds) (get_or figures bin no_figures))

-- what the bins are asked of: lanes of one length, no more than a trip's, and a place per second for the ranks
pub record BinLanes (states speeds co2 nox ranks : List ℕ) : Type 0 where
  pub speeds_agree : length speeds ≡ length states
  pub co2_agree : length co2 ≡ length states
  pub nox_agree : length nox ≡ length states
  pub few : length states ≤ trip_limit
  pub room : length states ≤ length ranks
