-- Laws of `after_first`, the state after the first i seconds. Assumes nothing.
use Prim.Native.Nat.{ℕ, zero, suc, ◌+◌, ◌<◌}
use mathlib.Core.Path.{◌≡◌, refl}
use native.Mathlib.Numerals.{add-one}
use native.Mathlib.Omega.{arith}
use Rattle.base.specs.Words.{after_first}

module _ {ℓ} {S : Type ℓ} (one : ℕ → S → S) (start : S) where
  pub after_none : after_first one start 0 ≡ start
  unfolding after_first
  after_none = refl

  -- one second more, at the code's i + 1
  pub after_more : (i : ℕ) → after_first one start (i + 1) ≡ one i (after_first one start i)
  unfolding after_first
  after_more i = rw add-one

  -- what holds at the start and is kept by each of the first n seconds holds after them
  pub after_keeps {κ} : (P : ℕ → S → Type κ) → P 0 start → ((i : ℕ) (s : S) → P i s → P (suc i) (one i s)) → (n : ℕ) → P n (after_first one start n)
  unfolding after_first
  after_keeps P p keep zero = p
  after_keeps P p keep (suc n) = keep n (after_first one start n) (after_keeps P p keep n)

-- two ways of a second that agree on each of the first n give the same state
pub after_same {ℓ} : {S : Type ℓ} (one other : ℕ → S → S) (start : S) (n : ℕ) → ((i : ℕ) → i < n → (s : S) → one i s ≡ other i s) → after_first one start n ≡ after_first other start n
unfolding after_first
after_same one other start zero same = refl
after_same {S} one other start (suc n) same =
    rw (after_same one other start n (λ i h. same i (omega arith))) (same n (omega arith) (after_first other start n))
