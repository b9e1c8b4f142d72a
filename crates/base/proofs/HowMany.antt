-- How many of the first n indices are in a set: all of them, those at the front, and each in one of four parts. Assumes nothing.
use Prim.Native.Nat.{ℕ, zero, suc, ◌+◌, ◌≤◌, ◌<◌}
use mathlib.Core.Path.{◌≡◌, refl}
use mathlib.Core.Bool.{Bool, true, false}
use native.Mathlib.Nat.{add-zero}
use native.Mathlib.Omega.{arith}
use lib.Dec.{ltb}
use borrow.Author.Tests.{ltb-true, ltb-false}
use Rattle.base.specs.Words.{pick, after_first, sum_over, how_many}
use Rattle.base.proofs.SumOver.{sum_over_none, sum_over_more, how_many_at_most}

module _ (in_set : ℕ → Bool) where
  pub how_many_none : how_many in_set 0 ≡ 0
  how_many_none = sum_over_none in_set (λ i. 1)

  -- one index more, at the code's i + 1
  pub how_many_more : (i : ℕ) → how_many in_set (i + 1) ≡ how_many in_set i + pick (in_set i) 1 0
  how_many_more i = sum_over_more in_set (λ i. 1) i

  -- each of them
  pub how_many_all : (n : ℕ) → ((i : ℕ) → i < n → in_set i ≡ true) → how_many in_set n ≡ n
  unfolding sum_over after_first
  how_many_all zero each = refl
  how_many_all (suc n) each = rw (each n (omega arith), how_many_all n (λ i (h : i < n). each i (omega arith))) (omega arith)

  -- d at least, where the first d are in the set
  pub how_many_least : (d n : ℕ) → d ≤ n → ((i : ℕ) → i < d → in_set i ≡ true) → d ≤ how_many in_set n
  unfolding sum_over after_first
  how_many_least d zero within each = omega arith
  how_many_least d (suc n) within each = go (ltb n d) refl (λ (h : d ≤ n). how_many_least d n h each)
    where
      go : (t : Bool) → ltb n d ≡ t → (d ≤ n → d ≤ how_many in_set n) → d ≤ how_many in_set (suc n)
      go true p before =
          omega (arith, ltb-true n d p, how_many_all (suc n) (λ i (h : i < suc n). each i (omega (arith, ltb-true n d p))))
      go false p before = omega (arith, before (ltb-false n d p))

  -- d at most, where none is in the set from d on
  pub how_many_most : (d n : ℕ) → ((i : ℕ) → d ≤ i → in_set i ≡ false) → how_many in_set n ≤ d
  unfolding sum_over after_first
  how_many_most d zero none = omega arith
  how_many_most d (suc n) none = go (ltb n d) refl (how_many_most d n none)
    where
      go : (t : Bool) → ltb n d ≡ t → how_many in_set n ≤ d → how_many in_set (suc n) ≤ d
      go true p before = omega (arith, ltb-true n d p, how_many_at_most in_set (suc n))
      go false p before = rw (none n (ltb-false n d p)) (omega arith)

  -- no more of d + k than of d, where none is in the set from d on
  pub how_many_rest : (d k : ℕ) → ((i : ℕ) → d ≤ i → in_set i ≡ false) → how_many in_set (d + k) ≡ how_many in_set d
  unfolding sum_over after_first
  how_many_rest d zero none = rw add-zero refl
  how_many_rest d (suc k) none =
      let e : d + suc k ≡ suc (d + k) = omega arith in
      rw (e, none (d + k) (omega arith)) (omega (arith, how_many_rest d k none))

-- a set that is made of four, each index in one of them, has as many as the four
pub how_many_parts : (whole first second third fourth : ℕ → Bool) → ((i : ℕ) → pick (first i) 1 0 + pick (second i) 1 0 + pick (third i) 1 0 + pick (fourth i) 1 0 ≡ pick (whole i) 1 0) → (n : ℕ) → how_many first n + how_many second n + how_many third n + how_many fourth n ≡ how_many whole n
unfolding sum_over after_first
how_many_parts whole first second third fourth parts zero = refl
how_many_parts whole first second third fourth parts (suc n) =
    omega (arith, how_many_parts whole first second third fourth parts n, parts n)
