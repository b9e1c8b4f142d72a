-- Q of ranked values: it is not below 0, and in natural numbers 100x(j) and r times the gap above it. Assumes nothing.
use Prim.Native.Nat.{ℕ, ◌+◌, ◌-◌, ◌*◌, ◌/◌, ◌%◌, ◌^◌, ◌≤◌, ◌<◌}
use mathlib.Core.Path.{◌≡◌, refl, sym, ◌∙◌, ap}
use mathlib.Core.List.{List}
use native.Mathlib.Omega.{arith}
use lib.IntN.{pos, nat_abs, ◌+ℤ◌, ◌-ℤ◌, ◌*ℤ◌}
use lib.ListN.{length, get_or}
use Rattle.base.proofs.Integers.{sub_up, pos_minus}
use Rattle.base.proofs.Products.{product_at_most}
use Rattle.percentile.specs.Percentile.{x, interpolated, q_of}
use Rattle.percentile.specs.Inside.{Ranked}

-- j and r
abbrev pub j_of : ℕ → ℕ
j_of m = 95 * m / 100

abbrev pub r_of : ℕ → ℕ
r_of m = 95 * m % 100

-- r times the gap between two values of 32 bits
pub gap_small : (m low high : ℕ) → high < 2 ^ 32 → r_of m * (high - low) ≤ 100 * 2 ^ 32
gap_small m low high h = product_at_most {m = 100} {n = 2 ^ 32} (100 * 2 ^ 32) (omega arith) (omega arith) tt

-- a sum with a difference that is not below 0
between : (a b r : ℕ) → a ≤ b → pos (100 * a) +ℤ pos r *ℤ (pos b -ℤ pos a) ≡ pos (100 * a + r * (b - a))
between a b r h = ap (λ d. pos (100 * a) +ℤ pos r *ℤ d) (pos_minus b a b a refl ∙ sub_up b a h)

module _ (ranked : List ℕ) (is : Ranked ranked) where
  abbrev j : ℕ
  j = j_of (length ranked)

  next : x ranked (j + 1) ≡ get_or ranked j 0
  next = let same : j + 1 - 1 ≡ j = omega arith in ap (λ k. get_or ranked k 0) same

  -- it is not below 0
  pub whole : interpolated ranked ≡ pos (100 * get_or ranked (j - 1) 0 + r_of (length ranked) * (get_or ranked j 0 - get_or ranked (j - 1) 0))
  whole =
      let up = is.ascending (j - 1) j (omega arith) (omega (arith, is.enough)) in
      ap (λ next. pos (100 * x ranked j) +ℤ pos (r_of (length ranked)) *ℤ (pos next -ℤ pos (x ranked j))) next ∙ between (get_or ranked (j - 1) 0) (get_or ranked j 0) (r_of (length ranked)) up

  pub q_is : q_of ranked ≡ 100 * get_or ranked (j - 1) 0 + r_of (length ranked) * (get_or ranked j 0 - get_or ranked (j - 1) 0)
  unfolding q_of
  q_is = ap nat_abs whole

  -- so Q is the number of the paper's formula
  pub never_negative : pos (q_of ranked) ≡ interpolated ranked
  never_negative = ap pos q_is ∙ sym whole
