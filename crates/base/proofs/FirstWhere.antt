-- Laws of `first_where`: it is the one index below which the test fails and at which it holds, or the end. Assumes nothing.
use Prim.Native.Nat.{ℕ, zero, suc, ◌≤◌, ◌<◌}
use mathlib.Core.Path.{◌≡◌, refl}
use mathlib.Core.Bool.{Bool, true, false}
use native.Mathlib.Omega.{arith}
use Rattle.base.specs.Words.{pick, first_where}
use Rattle.base.proofs.Tests.{never_both}

-- the index i is the first at which the test holds, or the end
pub record IsFirstWhere (test : ℕ → Bool) (n i : ℕ) : Type 0 where
  pub within : i ≤ n
  pub before : (k : ℕ) → k < i → test k ≡ false
  pub there : i < n → test i ≡ true

-- the first index is one
pub first_where_lem : (test : ℕ → Bool) (n : ℕ) → IsFirstWhere test n (first_where test n)
unfolding first_where
first_where_lem test zero = record { within = omega arith; before = λ k (h : k < 0). absurd (omega arith); there = λ (h : 0 < 0). absurd (omega arith) }
first_where_lem test (suc n) = go (test 0) refl (first_where_lem (λ i. test (suc i)) n)
  where
    go : (t : Bool) → test 0 ≡ t → IsFirstWhere (λ i. test (suc i)) n (first_where (λ i. test (suc i)) n) → IsFirstWhere test (suc n) (pick t 0 (suc (first_where (λ i. test (suc i)) n)))
    go true e rest = record { within = omega arith; before = λ k (h : k < 0). absurd (omega arith); there = λ h. e }
    go false e rest =
        record {
          within = omega (arith, rest.within);
          before = elim [ zero ↦ λ h. e | suc k ↦ λ (h : suc k < suc (first_where (λ i. test (suc i)) n)). rest.before k (omega arith) ];
          there = λ (h : suc (first_where (λ i. test (suc i)) n) < suc n). rest.there (omega arith);
        }

-- of two such indices neither is below the other
not-below : (test : ℕ → Bool) (n i j : ℕ) → IsFirstWhere test n i → IsFirstWhere test n j → i < j → ⊥
not-below test n i j p q h = never_both (p.there (omega (arith, q.within))) (q.before i h)

-- so there is only one
pub first_where_is : (test : ℕ → Bool) (n i : ℕ) → IsFirstWhere test n i → first_where test n ≡ i
first_where_is test n i is =
    let no_less : first_where test n < i → ⊥ = not-below test n (first_where test n) i (first_where_lem test n) is in
    let no_more : i < first_where test n → ⊥ = not-below test n i (first_where test n) is (first_where_lem test n) in
    omega arith
