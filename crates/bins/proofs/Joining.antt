-- Tallies and dynamics put together are the bins of the trip. Assumes nothing.
use Prim.Native.Nat.{ℕ}
use mathlib.Core.Path.{◌≡◌, refl}
use mathlib.Core.List.{List}
use Rattle.base.specs.Roads.{of_each}
use Rattle.tally.specs.Inside.{bin_tallies, bin_tallies_after, added}
use Rattle.tally.proofs.Tallies.{bins_add_up}
use Rattle.acceleration.specs.Products.{products_of}
use Rattle.dynamics.specs.Dynamics.{dynamics_of}
use Rattle.bins.specs.Bins.{bin_of, bins_of}
use Rattle.bins.specs.Inside.{joined_all}

module _ (states speeds co2 nox : List ℕ) where
  pub joins : joined_all (bin_tallies states speeds co2 nox) (of_each (λ bin. dynamics_of (products_of bin states speeds))) ≡ (bins_of states speeds co2 nox).each
  unfolding joined_all bin_tallies_after bins_of bin_of
  joins = refl

  pub totals : added (bin_tallies states speeds co2 nox) ≡ (bins_of states speeds co2 nox).total
  unfolding bins_of
  totals = bins_add_up states speeds co2 nox
