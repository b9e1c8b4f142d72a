-- The first places of a lane, whatever its length. Assumes nothing.
use Prim.Native.Nat.{ℕ, zero, suc, min}
use mathlib.Core.Path.{◌≡◌, sym, ◌∙◌, ap}
use mathlib.Core.List.{List, [], ◌∷◌}
use native.Mathlib.Nat.{zero-min, min-zero, min-le_right, suc-min-suc}
use lib.ListN.{length, take}
use lib.Seq.{length-take-le}

-- a lane has no places behind its last
first_places {ℓ} : {A : Type ℓ} (n : ℕ) (lane : List A) → take (min n (length lane)) lane ≡ take n lane
first_places zero lane = ap (λ (k : ℕ). take k lane) (zero-min (length lane))
first_places (suc n) [] = ap (λ (k : ℕ). take k []) (min-zero (suc n))
first_places (suc n) (x ∷ xs) =
    ap (λ (k : ℕ). take k (x ∷ xs)) (suc-min-suc n (length xs)) ∙ ap (λ (rest : List _). x ∷ rest) (first_places n xs)

-- so many places as n asks and the lane has are the first n
module _ {ℓ} {A : Type ℓ} (n : ℕ) (lane : List A) {r : ℕ} (e : r ≡ min n (length lane)) where
  pub first_part : take r lane ≡ take n lane
  first_part = rw e (first_places n lane)

  -- and the lane has them all
  pub part_long : r ≡ length (take r lane)
  part_long = sym (length-take-le r lane (rw e (min-le_right n (length lane))))
