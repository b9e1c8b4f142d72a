-- The seconds of a window as a part of the kept lanes: what its speeds and masses add up to. Assumes nothing.
use Prim.Native.Nat.{ℕ, zero, suc, ◌+◌, ◌-◌, ◌*◌, ◌≤◌, ◌<◌}
use mathlib.Core.Path.{◌≡◌, refl}
use mathlib.Core.List.{List, [], ◌∷◌}
use native.Mathlib.Nat.{le_refl, sub-zero}
use native.Mathlib.Omega.{arith}
use lib.ListN.{length, take, drop, get_or, length-take, length-drop}
use lib.Seq.{take-nil, get_or-take, get_or-drop}
use Rattle.base.specs.Limits.{trip_limit, speed_most}
use Rattle.base.specs.Words.{sum}
use Rattle.base.proofs.Products.{product_at_most}
use Rattle.base.proofs.Sums.{sum_first_more, sum_bound}
use Rattle.kept.specs.Kept.{kept_speed_least}
use Rattle.sweep.proofs.Prefix.{first_rises, first_within, part_sum}
use Rattle.windows.specs.Inside.{KeptSpeeds}

-- the part from f to below l, cut in either order
pub part_is : (f l : ℕ) (xs : List ℕ) → take (l - f) (drop f xs) ≡ drop f (take l xs)
part_is zero l xs = rw sub-zero refl
part_is (suc f) zero xs = let e : 0 - suc f ≡ 0 = omega arith in rw e refl
part_is (suc f) (suc l) [] = take-nil (suc l - suc f)
part_is (suc f) (suc l) (x ∷ xs) = let e : suc l - suc f ≡ l - f = omega arith in rw e (part_is f l xs)

module _ (f l : ℕ) (xs : List ℕ) where
  -- it is as long as that
  pub part_length : l ≤ length xs → length (take (l - f) (drop f xs)) ≡ l - f
  part_length h = simp (length-take, length-drop) (omega arith)

  -- its sum is no more than that of all
  pub part_light : f ≤ l → sum (take (l - f) (drop f xs)) ≤ sum xs
  part_light h = omega (arith, part_sum f l xs h, first_within l xs)

  -- kept speeds each
  pub part_kept : f ≤ l → l ≤ length xs → KeptSpeeds xs → KeptSpeeds (take (l - f) (drop f xs))
  part_kept h k kept =
      let long = part_length k in
      record {
        few = omega (arith, kept.few);
        each = λ i (m : i < length (take (l - f) (drop f xs))). rw (get_or-take (l - f) (drop f xs) i 0 (omega arith), get_or-drop f xs i 0) (kept.each (f + i) (omega arith));
      }

  -- "Kept: .. speed at least 100": a part with a second in it moves
  pub part_moves : f < l → l ≤ length xs → ((i : ℕ) → i < length xs → kept_speed_least ≤ get_or xs i 0) → 0 < sum (take (l - f) (drop f xs))
  part_moves h k each =
      omega
      (arith, part_sum f l xs (omega arith), first_rises xs (f + 1) l (omega arith), sum_first_more f xs (omega arith), each f (omega arith))

-- so many speeds add up to no more than so many of the highest
pub speeds_fit : {speeds : List ℕ} → KeptSpeeds speeds → sum speeds ≤ trip_limit * speed_most
speeds_fit {speeds} kept =
    let all : length speeds * speed_most ≤ trip_limit * speed_most = product_at_most (trip_limit * speed_most) kept.few (le_refl speed_most) tt in
    omega (arith, sum_bound speed_most speeds kept.each)
