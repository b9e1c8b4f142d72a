-- Laws of the counts: one second more, and how large they grow. Assumes nothing.
use Prim.Native.Nat.{ℕ, suc, ◌+◌, ◌≤◌, max}
use mathlib.Core.Path.{◌≡◌, refl, sym, ◌∙◌, ap}
use mathlib.Core.Bool.{Bool, true, false, ◌&&◌, and-false}
use mathlib.Core.List.{List}
use native.Mathlib.Numerals.{add-one}
use native.Mathlib.Omega.{arith}
use borrow.Author.Tests.{ltb-true, le-leb}
use lib.Dec.{leb, ltb, eqb}
use lib.ListN.{get_or}
use Rattle.base.specs.Limits.{trip_limit}
use Rattle.base.specs.Roads.{urban}
use Rattle.base.specs.Words.{after_first, sum_over}
use Rattle.base.proofs.Seconds.{after_more}
use Rattle.second.specs.Bins.{bin_of}
use Rattle.tally.specs.Numbers.{slow_below, fast_above, faster_above, fastest_above}
use Rattle.tally.specs.Sets.{is_missing, is_slow_urban, is_above}
use Rattle.tally.specs.Counts.{gap_after, longest_gap, counts_after}
use Rattle.tally.specs.Inside.{gap_with, counts_with, Few}
use Rattle.base.proofs.SumOver.{sum_over_more, how_many_at_most}

-- a slow second is urban
slow_is_urban : (present : Bool) (speed : ℕ) → present && eqb (bin_of speed) urban && ltb speed slow_below ≡ present && ltb speed slow_below
unfolding bin_of
slow_is_urban present speed = go present (ltb speed slow_below) refl
  where
    go : (t slow : Bool) → ltb speed slow_below ≡ slow → t && eqb (bin_of speed) urban && slow ≡ t && slow
    go false slow q = refl
    go true true q =
        let low : leb speed 6_000 ≡ true = le-leb speed 6_000 (omega (arith, ltb-true speed slow_below q)) in
        rw low refl
    go true false q = and-false (eqb (bin_of speed) urban)

module _ (states : List ℕ) where
  pub gap_none : gap_after states 0 ≡ 0
  unfolding gap_after after_first
  gap_none = refl

  pub gap_more : (i : ℕ) → gap_after states (i + 1) ≡ gap_with (gap_after states i) (get_or states i 0)
  unfolding gap_after
  gap_more i = after_more _ 0 i

  pub longest_gap_more : (i : ℕ) → longest_gap states (i + 1) ≡ max (longest_gap states i) (gap_after states (i + 1))
  unfolding longest_gap
  longest_gap_more i = after_more _ 0 i ∙ ap (λ (k : ℕ). max (after_first (λ j longest. max longest (gap_after states (suc j))) 0 i) (gap_after states k)) (sym (add-one i))

module _ (states speeds : List ℕ) where
  pub counts_none : counts_after states speeds 0 ≡ record { missing = 0; gap = 0; slow = 0; fast = 0; faster = 0; fastest = 0 }
  unfolding counts_after sum_over longest_gap after_first
  counts_none = refl

  -- one second more, at the code's i + 1
  pub counts_more : (i : ℕ) → counts_after states speeds (i + 1) ≡ counts_with (counts_after states speeds i) (gap_after states (i + 1)) (get_or states i 0) (get_or speeds i 0)
  unfolding counts_after counts_with
  counts_more i =
      rw (sum_over_more, longest_gap_more, sum_over_more, sum_over_more, sum_over_more, sum_over_more, slow_is_urban) refl

  -- no count passes the seconds counted
  pub counts_few : (i : ℕ) → i ≤ trip_limit → Few (counts_after states speeds i)
  unfolding counts_after
  counts_few i few =
      record {
        missing = omega (arith, how_many_at_most (is_missing states) i);
        slow = omega (arith, how_many_at_most (is_slow_urban states speeds) i);
        fast = omega (arith, how_many_at_most (is_above states speeds fast_above) i);
        faster = omega (arith, how_many_at_most (is_above states speeds faster_above) i);
        fastest = omega (arith, how_many_at_most (is_above states speeds fastest_above) i);
      }
