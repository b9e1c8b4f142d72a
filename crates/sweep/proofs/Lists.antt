-- What the library's iterators come to is what the definitions say. Assumes nothing.
use Prim.Native.Nat.{ℕ, suc, ◌+◌, ◌≤◌}
use mathlib.Core.Path.{◌≡◌, refl}
use mathlib.Core.Bool.{Bool, true, false, not, cond}
use mathlib.Core.List.{List}
use native.Mathlib.Omega.{arith}
use borrow.Author.Tests.{ltb-false}
use lib.Dec.{ltb}
use lib.ListN.{length}
use Rattle.std.specs.Prelude.{Some, None}
use Rattle.std.specs.List.{position, position_or_len}
use Rattle.std.specs.Option.{unwrap_or}
use Rattle.std.proofs.lemmas.List.Recursion.{is_position_or_len}
use Rattle.std.proofs.lemmas.List.Sums.{prefix_len-le-length}
use Rattle.base.specs.Second.{co2_in_range}
use Rattle.base.specs.Words.{pick, first_where}
use Rattle.sweep.specs.Sweep.{first_out_of_range}

-- an index that was searched for, and the length where there is none
pub position_unwrapped : (test : ℕ → Bool) (xs : List ℕ) → unwrap_or (position test xs) (length xs) ≡ position_or_len test xs
position_unwrapped test xs = go (ltb (position_or_len test xs) (length xs)) refl
  where
    most : position_or_len test xs ≤ length xs
    most = prefix_len-le-length _ xs

    go : (t : Bool) → ltb (position_or_len test xs) (length xs) ≡ t → unwrap_or (cond t (Some (position_or_len test xs)) None) (length xs) ≡ position_or_len test xs
    go true e = refl
    go false e = let past : length xs ≤ position_or_len test xs = ltb-false _ _ e in omega (arith, most)

-- the first mass that is out of range
pub first_out_of_range_is : (co2 : List ℕ) → first_out_of_range co2 ≡ position_or_len (λ mass. not (co2_in_range mass)) co2
unfolding first_where
first_out_of_range_is = is_position_or_len first_out_of_range (λ mass. not (co2_in_range mass)) refl (λ mass rest. go (not (co2_in_range mass)) (first_out_of_range rest))
  where
    go : (t : Bool) (later : ℕ) → pick t 0 (suc later) ≡ cond t 0 (1 + later)
    go true later = refl
    go false later = omega arith
