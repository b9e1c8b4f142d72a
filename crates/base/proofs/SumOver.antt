-- Laws of `sum_over` and `how_many`: sums over sets of seconds. Assumes nothing.
use Prim.Native.Nat.{ℕ, zero, suc, ◌+◌, ◌*◌, ◌≤◌, ◌<◌}
use mathlib.Core.Path.{◌≡◌, refl}
use mathlib.Core.Bool.{Bool, true, false}
use native.Mathlib.Nat.{suc-mul}
use native.Mathlib.Omega.{arith}
use Rattle.base.specs.Words.{pick, after_first, sum_over, how_many}
use Rattle.base.proofs.Seconds.{after_more}

-- what one second adds is at most its value
pick_at_most : (t : Bool) (v b : ℕ) → v ≤ b → pick t v 0 ≤ b
pick_at_most true v b h = h
pick_at_most false v b h = omega arith

module _ (in_set : ℕ → Bool) (value : ℕ → ℕ) where
  pub sum_over_none : sum_over in_set value 0 ≡ 0
  unfolding sum_over after_first
  sum_over_none = refl

  -- one second more, at the code's i + 1
  pub sum_over_more : (i : ℕ) → sum_over in_set value (i + 1) ≡ sum_over in_set value i + pick (in_set i) (value i) 0
  unfolding sum_over
  sum_over_more i = after_more _ 0 i

  -- values that are each at most b come to at most b for each second
  pub sum_over_at_most : (b : ℕ) → ((k : ℕ) → value k ≤ b) → (i : ℕ) → sum_over in_set value i ≤ i * b
  unfolding sum_over after_first
  sum_over_at_most b small zero = omega arith
  sum_over_at_most b small (suc i) =
      rw suc-mul (omega (arith, sum_over_at_most b small i, pick_at_most (in_set i) (value i) b (small i)))

-- no more seconds are in a set than there are
pub how_many_at_most : (in_set : ℕ → Bool) (i : ℕ) → how_many in_set i ≤ i
how_many_at_most in_set i = omega (arith, sum_over_at_most in_set (λ k. 1) 1 (λ k. omega arith) i)

-- two sets that agree have one sum
pub sum_over_same : (in_set in_other : ℕ → Bool) (value : ℕ → ℕ) → ((i : ℕ) → in_set i ≡ in_other i) → (n : ℕ) → sum_over in_set value n ≡ sum_over in_other value n
unfolding sum_over after_first
sum_over_same in_set in_other value same zero = refl
sum_over_same in_set in_other value same (suc n) = rw (sum_over_same in_set in_other value same n, same n) refl

-- a set that is made of three, each second in one of them, has the three sums added up
pub sum_over_parts : (whole first second third : ℕ → Bool) (value : ℕ → ℕ) → ((i v : ℕ) → pick (first i) v 0 + pick (second i) v 0 + pick (third i) v 0 ≡ pick (whole i) v 0) → (n : ℕ) → sum_over first value n + sum_over second value n + sum_over third value n ≡ sum_over whole value n
unfolding sum_over after_first
sum_over_parts whole first second third value parts zero = refl
sum_over_parts whole first second third value parts (suc n) =
    omega (arith, sum_over_parts whole first second third value parts n, parts n (value n))

-- two sets of which each of the first n seconds is in one hold n seconds
pub how_many_both : (in_set in_other : ℕ → Bool) (n : ℕ) → ((i : ℕ) → i < n → pick (in_set i) 1 0 + pick (in_other i) 1 0 ≡ 1) → how_many in_set n + how_many in_other n ≡ n
unfolding sum_over after_first
how_many_both in_set in_other zero one = refl
how_many_both in_set in_other (suc n) one =
    omega (arith, how_many_both in_set in_other n (λ i (h : i < n). one i (omega arith)), one n (omega arith))
