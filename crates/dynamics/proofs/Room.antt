-- A second is in one bin at most, so the products of the three bins are no more than the seconds. Assumes nothing.
use Prim.Native.Nat.{ℕ, zero, suc, ◌+◌, ◌≤◌}
use mathlib.Core.Path.{sym}
use mathlib.Core.Bool.{Bool, true, false, ◌&&◌}
use mathlib.Core.List.{List}
use native.Mathlib.Numerals.{add-one}
use native.Mathlib.Omega.{arith}
use lib.Dec.{leb, eqb}
use lib.ListN.{length, get_or}
use Rattle.base.specs.Roads.{urban, rural, motorway}
use Rattle.base.specs.Words.{pick}
use Rattle.second.specs.Bins.{bin_of}
use Rattle.acceleration.specs.Products.{counts, counts_in, products_after}
use Rattle.acceleration.proofs.Writing.{products_none, length_step}

module _ (states speeds : List ℕ) where
  -- one where second i counts in the bin
  abbrev one : ℕ → ℕ → ℕ
  one bin i = pick (counts_in bin states speeds i) 1 0

  one_bin : (i : ℕ) → one urban i + one rural i + one motorway i ≤ 1
  unfolding counts_in bin_of
  one_bin i = go (counts states speeds i) (leb (get_or speeds i 0) 6_000) (leb (get_or speeds i 0) 9_000)
    where
      in_bin : Bool → Bool → Bool → ℕ → ℕ
      in_bin c u r bin = pick (c && eqb (pick u urban (pick r rural motorway)) bin) 1 0

      go : (c u r : Bool) → in_bin c u r urban + in_bin c u r rural + in_bin c u r motorway ≤ 1
      go false u r = omega arith
      go true true r = omega arith
      go true false true = omega arith
      go true false false = omega arith

  -- of the first i seconds
  room_after : (i : ℕ) → length (products_after urban states speeds i) + length (products_after rural states speeds i) + length (products_after motorway states speeds i) ≤ i
  room_after zero = rw (products_none urban states speeds, products_none rural states speeds, products_none motorway states speeds) (omega arith)
  room_after (suc i) =
      rw (sym (add-one i))
      (omega (arith, room_after i, one_bin i, length_step urban states speeds i, length_step rural states speeds i, length_step motorway states speeds i))

  pub room : length (products_after urban states speeds (length states)) + length (products_after rural states speeds (length states)) + length (products_after motorway states speeds (length states)) ≤ length states
  room = room_after (length states)
