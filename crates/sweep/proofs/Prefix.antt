-- Sums from the front never fall. Assumes nothing.
use Prim.Native.Nat.{ℕ, ◌+◌, ◌-◌, ◌≤◌, ◌<◌}
use mathlib.Core.Path.{◌≡◌, refl, ap, ◌∙◌}
use mathlib.Core.List.{List, []}
use native.Mathlib.Omega.{arith}
use lib.ListN.{length, take, drop, get_or}
use lib.Seq.{take_all}
use Rattle.base.specs.Words.{sum, sum_first}
use Rattle.base.proofs.Sums.{sum_part, sum_first_more}

pub first_rises : (xs : List ℕ) (i j : ℕ) → i ≤ j → sum_first i xs ≤ sum_first j xs
first_rises xs i j h =
    let e : i + (j - i) ≡ j = omega arith in
    let p : sum_first (i + (j - i)) xs ≡ sum_first j xs = ap (λ (k : ℕ). sum_first k xs) e in
    omega (arith, sum_part i (j - i) xs)

-- the sum of all is the largest
pub first_within : (i : ℕ) (xs : List ℕ) → sum_first i xs ≤ sum xs
first_within i xs =
    let e : take (i + length xs) xs ≡ xs = take_all (i + length xs) xs (omega arith) in
    let p : sum (take (i + length xs) xs) ≡ sum xs = ap sum e in
    let h : sum_first i xs ≤ sum_first (i + length xs) xs = first_rises xs i (i + length xs) (omega arith) in
    omega arith

-- a part from f to l, at the two sums from the front
pub part_sum : (f l : ℕ) (xs : List ℕ) → f ≤ l → sum_first f xs + sum (take (l - f) (drop f xs)) ≡ sum_first l xs
part_sum f l xs h =
    let e : f + (l - f) ≡ l = omega arith in
    let p : sum_first (f + (l - f)) xs ≡ sum_first l xs = ap (λ (k : ℕ). sum_first k xs) e in
    omega (arith, sum_part f (l - f) xs)

-- the last of the first d numbers
pub first_last : (d : ℕ) (xs : List ℕ) → 0 < d → d ≤ length xs → sum_first d xs ≡ sum_first (d - 1) xs + get_or xs (d - 1) 0
first_last d xs h k =
    let e : d - 1 + 1 ≡ d = omega arith in
    let p : sum_first (d - 1 + 1) xs ≡ sum_first d xs = ap (λ (k : ℕ). sum_first k xs) e in
    omega (arith, sum_first_more (d - 1) xs (omega arith))

-- the sum of all, at the sum of as many from the front
pub first_all : (i : ℕ) (xs : List ℕ) → length xs ≤ i → sum_first i xs ≡ sum xs
first_all i xs h = ap sum (take_all i xs h)

-- ---- both halves at once
sum_nothing : sum [] ≡ 0
unfolding sum
sum_nothing = refl

-- what is added after i steps: the first i numbers, and i numbers from h on
pub record Halves (xs : List ℕ) (h i total : ℕ) : Type 0 where
  pub within : i ≤ h
  pub added : total + sum_first h xs ≡ sum_first i xs + sum_first (h + i) xs

pub halves_none : (xs : List ℕ) (h : ℕ) → Halves xs h 0 0
halves_none xs h =
    let e : h + 0 ≡ h = omega arith in
    let p : sum_first (h + 0) xs ≡ sum_first h xs = ap (λ (k : ℕ). sum_first k xs) e in
    let z : sum_first 0 xs ≡ 0 = sum_nothing in
    record { within = omega arith; added = omega arith }

module _ (xs : List ℕ) (h i total : ℕ) (so_far : Halves xs h i total) (short : h + h ≤ length xs) (step : i < h) where
  halves_step : (sum_first (i + 1) xs ≡ sum_first i xs + get_or xs i 0) × (sum_first (h + (i + 1)) xs ≡ sum_first (h + i) xs + get_or xs (h + i) 0)
  halves_step =
      let e : h + (i + 1) ≡ h + i + 1 = omega arith in
      let p : sum_first (h + (i + 1)) xs ≡ sum_first (h + i + 1) xs = ap (λ (k : ℕ). sum_first k xs) e in
      (sum_first_more i xs (omega arith), p ∙ sum_first_more (h + i) xs (omega arith))

  pub halves_more : Halves xs h (i + 1) (total + (get_or xs i 0 + get_or xs (h + i) 0))
  halves_more = let s = halves_step in record { within = omega arith; added = omega (arith, so_far.added) }

  -- no more than the sum of all
  pub halves_most : total + (get_or xs i 0 + get_or xs (h + i) 0) ≤ sum xs
  halves_most =
      let s = halves_step in
      omega (arith, so_far.added, first_rises xs (i + 1) h (omega arith), first_within (h + (i + 1)) xs)

-- at the end there is one number left, or none
module _ (xs : List ℕ) (h total : ℕ) (all : Halves xs h h total) where
  pub halves_even : h + h ≡ length xs → total ≡ sum xs
  halves_even e = omega (arith, all.added, first_all (h + h) xs (omega arith))

  pub halves_odd : h + h + 1 ≡ length xs → total + get_or xs (h + h) 0 ≡ sum xs
  halves_odd e = omega (arith, all.added, sum_first_more (h + h) xs (omega arith), first_all (h + h + 1) xs (omega arith))
