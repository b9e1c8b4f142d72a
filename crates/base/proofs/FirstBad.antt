-- Laws of `first_bad`: it is the one index below which each is good and which is itself bad or the end. Assumes nothing.
use Prim.Native.Nat.{ℕ, ◌≤◌, ◌<◌}
use mathlib.Core.Path.{◌≡◌, refl, sym, ap}
use mathlib.Core.Bool.{Bool, true, false, not}
use Rattle.base.specs.Words.{first_bad}
use Rattle.base.proofs.FirstWhere.{first_where_lem, first_where_is}

-- the index i is the first bad one: each below it is good, and it is bad or the end
pub record IsFirstBad (good : ℕ → Bool) (n i : ℕ) : Type 0 where
  pub within : i ≤ n
  pub before : (k : ℕ) → k < i → good k ≡ true
  pub there : i < n → good i ≡ false

good_if : (b : Bool) → not b ≡ false → b ≡ true
good_if true e = refl
good_if false e = sym e

bad_if : (b : Bool) → not b ≡ true → b ≡ false
bad_if false e = refl
bad_if true e = sym e

-- the first bad index is one
pub first_bad_lem : (good : ℕ → Bool) (n : ℕ) → IsFirstBad good n (first_bad good n)
first_bad_lem good n =
    let first = first_where_lem (λ i. not (good i)) n in
    record {
      within = first.within;
      before = λ k h. good_if (good k) (first.before k h);
      there = λ h. bad_if (good (first_bad good n)) (first.there h);
    }

-- and there is only one
pub first_bad_is : (good : ℕ → Bool) (n i : ℕ) → IsFirstBad good n i → first_bad good n ≡ i
first_bad_is good n i is =
    first_where_is (λ i. not (good i)) n i record { within = is.within; before = λ k h. ap not (is.before k h); there = λ h. ap not (is.there h) }
