-- Refusal 13 by one sum and two tests: where the numbers are in order and the mass is that of the seconds taken and not dropped, the
-- two tests say whether the state is reached. Assumes nothing.
use Prim.Native.Nat.{ℕ, ◌+◌, ◌-◌, ◌≤◌, ◌<◌}
use mathlib.Core.Path.{◌≡◌, refl, sym}
use mathlib.Core.Bool.{Bool, true, false, ◌&&◌, ◌||◌, true≢false}
use mathlib.Core.List.{List}
use native.Mathlib.Omega.{arith}
use lib.Dec.{leb, ltb, eqb}
use lib.ListN.{length, take, drop, get_or}
use borrow.Author.Tests.{ne_eqb, eqb-false, leb-true, leb-false, ltb-true, ltb-false}
use Rattle.base.specs.Words.{sum, sum_first}
use Rattle.sweep.specs.declared.SweepState.{SweepState}
use Rattle.sweep.specs.Sweep.{is_reached}
use Rattle.sweep.specs.Runs.{Standing}
use Rattle.sweep.specs.Inside.{closed_rightly, needed_last}
use Rattle.sweep.proofs.Prefix.{first_rises, first_last, part_sum}
use Rattle.sweep.proofs.Reached.{stands_reached, astray}

-- the second of two tests decides where the first fails; where neither holds, both fail
second : (a b : Bool) → a || b ≡ true → a ≡ false → b ≡ true
second true b e f = absurd (true≢false f)
second false b e f = e

neither : (a b : Bool) → a || b ≡ false → (a ≡ false) × (b ≡ false)
neither true b e = absurd (true≢false e)
neither false b e = (refl, e)

module _ (reference : ℕ) (co2 : List ℕ) (positive : 1 ≤ reference) (s : SweepState) where
  -- what the code has seen before the two tests
  pub record Seen : Type 0 where
    pub counted : s.moves ≡ s.taken + s.dropped
    pub order : s.dropped ≤ s.taken
    pub within : s.taken ≤ length co2
    pub weighed : s.mass ≡ sum (take (s.taken - s.dropped) (drop s.dropped co2))

  -- the mass, by the sums from the front
  between : Seen → sum_first s.dropped co2 + s.mass ≡ sum_first s.taken co2
  between seen = omega (arith, seen.weighed, part_sum s.dropped s.taken co2 seen.order)

  closed_right : Seen → closed_rightly reference co2 s.dropped s.mass ≡ true → (k : ℕ) → k < s.dropped → reference + sum_first k co2 ≤ sum_first s.taken co2
  closed_right seen e k h =
      let some : s.dropped ≡ 0 → ⊥ = λ (z : s.dropped ≡ 0). omega arith in
      let test = second (eqb s.dropped 0) (leb reference (s.mass + get_or co2 (s.dropped - 1) 0)) e (ne_eqb s.dropped 0 some) in
      let last = first_last s.dropped co2 (omega arith) (omega (arith, seen.order, seen.within)) in
      let rises = first_rises co2 k (s.dropped - 1) (omega arith) in
      omega (arith, between seen, leb-true reference (s.mass + get_or co2 (s.dropped - 1) 0) test)

  needed_right : Seen → needed_last reference co2 s.taken s.mass ≡ true → (k : ℕ) → k < s.taken → sum_first k co2 < reference + sum_first s.dropped co2
  needed_right seen e k h =
      let some : s.taken ≡ 0 → ⊥ = λ (z : s.taken ≡ 0). omega arith in
      let test = second (eqb s.taken 0) (ltb s.mass (reference + get_or co2 (s.taken - 1) 0)) e (ne_eqb s.taken 0 some) in
      let last = first_last s.taken co2 (omega arith) seen.within in
      let rises = first_rises co2 k (s.taken - 1) (omega arith) in
      omega (arith, between seen, ltb-true s.mass (reference + get_or co2 (s.taken - 1) 0) test)

  closed_wrong : Seen → closed_rightly reference co2 s.dropped s.mass ≡ false → Standing reference co2 s → ⊥
  closed_wrong seen e st =
      let tests = neither (eqb s.dropped 0) (leb reference (s.mass + get_or co2 (s.dropped - 1) 0)) e in
      let some : s.dropped ≡ 0 → ⊥ = eqb-false s.dropped 0 tests.0 in
      let last = first_last s.dropped co2 (omega arith) (omega (arith, seen.order, seen.within)) in
      omega (arith, between seen, leb-false reference (s.mass + get_or co2 (s.dropped - 1) 0) tests.1, st.closed (s.dropped - 1) (omega arith))

  needed_wrong : Seen → needed_last reference co2 s.taken s.mass ≡ false → Standing reference co2 s → ⊥
  needed_wrong seen e st =
      let tests = neither (eqb s.taken 0) (ltb s.mass (reference + get_or co2 (s.taken - 1) 0)) e in
      let some : s.taken ≡ 0 → ⊥ = eqb-false s.taken 0 tests.0 in
      let last = first_last s.taken co2 (omega arith) seen.within in
      omega (arith, between seen, ltb-false s.mass (reference + get_or co2 (s.taken - 1) 0) tests.1, st.needed (s.taken - 1) (omega arith))

  -- the two tests decide
  pub two_tests : Seen → closed_rightly reference co2 s.dropped s.mass && needed_last reference co2 s.taken s.mass ≡ is_reached reference co2 s
  two_tests seen = go (closed_rightly reference co2 s.dropped s.mass) refl (needed_last reference co2 s.taken s.mass) refl
    where
      go : (a : Bool) → closed_rightly reference co2 s.dropped s.mass ≡ a → (b : Bool) → needed_last reference co2 s.taken s.mass ≡ b → a && b ≡ is_reached reference co2 s
      go true p true q =
          sym (stands_reached reference co2 positive s (record { counted = seen.counted; order = seen.order; within = seen.within; weighed = between seen; closed = closed_right seen p; needed = needed_right seen q }))
      go true p false q = sym (astray reference co2 positive s (needed_wrong seen q))
      go false p b q = sym (astray reference co2 positive s (closed_wrong seen p))

  -- each sign that the state is astray
  pub too_far : length co2 < s.taken → is_reached reference co2 s ≡ false
  too_far h = astray reference co2 positive s (λ st. omega (arith, st.within))

  pub out_of_order : s.taken < s.dropped → is_reached reference co2 s ≡ false
  out_of_order h = astray reference co2 positive s (λ st. omega (arith, st.order))

  pub miscounted : (s.moves ≡ s.taken + s.dropped → ⊥) → is_reached reference co2 s ≡ false
  miscounted wrong = astray reference co2 positive s (λ st. wrong st.counted)

  pub misweighed : s.dropped ≤ s.taken → (s.mass ≡ sum (take (s.taken - s.dropped) (drop s.dropped co2)) → ⊥) → is_reached reference co2 s ≡ false
  misweighed order wrong =
      astray reference co2 positive s (λ st. wrong (omega (arith, st.weighed, part_sum s.dropped s.taken co2 order)))
