-- Laws of kept seconds: one second more, how many there are, and what holds of each. Assumes nothing.
use Prim.Native.Nat.{ℕ, zero, suc, ◌+◌, ◌≤◌, ◌<◌}
use mathlib.Core.Path.{◌≡◌, refl, ◌∙◌}
use mathlib.Core.Bool.{Bool, true, false}
use mathlib.Core.List.{List, [], ◌∷◌, ◌++◌}
use native.Mathlib.Omega.{arith}
use lib.ListN.{length, get_or, set, length-append, length-set}
use Rattle.base.specs.Words.{pick, after_first, with_front}
use Rattle.base.proofs.Seconds.{after_more}
use Rattle.base.proofs.Store.{store_next}
use Rattle.kept.specs.Kept.{second_kept, kept_after}

-- what holds of each value of a list and of one more holds of each of both
each_append : (P : ℕ → Type 0) (l : List ℕ) (x : ℕ) → ((k : ℕ) → k < length l → P (get_or l k 0)) → P x → (k : ℕ) → k < length (l ++ (x ∷ [])) → P (get_or (l ++ (x ∷ [])) k 0)
each_append P [] x each last zero h = last
each_append P [] x each last (suc k) h = absurd (omega (arith, h))
each_append P (y ∷ l) x each last zero h = each 0 (omega arith)
each_append P (y ∷ l) x each last (suc k) h =
    each_append P l x (λ j below. each (suc j) (omega (arith, below))) last k (omega (arith, h))

module _ (states speeds : List ℕ) where
  abbrev is_kept : ℕ → Bool
  is_kept i = second_kept (get_or states i 0) (get_or speeds i 0)

  module _ (lane : List ℕ) where
    pub kept_none : kept_after states speeds lane 0 ≡ []
    unfolding kept_after after_first
    kept_none = refl

    -- one second more, at the code's i + 1
    pub kept_more : (i : ℕ) → is_kept i ≡ true → kept_after states speeds lane (i + 1) ≡ kept_after states speeds lane i ++ (get_or lane i 0 ∷ [])
    unfolding kept_after
    kept_more i q = after_more _ _ i ∙ rw q refl

    pub kept_same : (i : ℕ) → is_kept i ≡ false → kept_after states speeds lane (i + 1) ≡ kept_after states speeds lane i
    unfolding kept_after
    kept_same i q = after_more _ _ i ∙ rw q refl

    -- no more are kept than there are seconds
    pub kept_at_most : (i : ℕ) → length (kept_after states speeds lane i) ≤ i
    unfolding kept_after after_first
    kept_at_most zero = omega arith
    kept_at_most (suc i) = go (is_kept i) (kept_at_most i)
      where
        go : (t : Bool) → length (kept_after states speeds lane i) ≤ i → length (pick t (kept_after states speeds lane i ++ (get_or lane i 0 ∷ [])) (kept_after states speeds lane i)) ≤ suc i
        go true h = rw length-append (omega arith)
        go false h = omega arith

    -- what holds of the value of each second that is kept holds of each value kept
    pub kept_each : (P : ℕ → Type 0) (n : ℕ) → ((i : ℕ) → i < n → is_kept i ≡ true → P (get_or lane i 0)) → (k : ℕ) → k < length (kept_after states speeds lane n) → P (get_or (kept_after states speeds lane n) k 0)
    unfolding kept_after after_first
    kept_each P zero each k h = absurd (omega (arith, h))
    kept_each P (suc n) each k h = go (is_kept n) refl (kept_each P n (λ i below. each i (omega (arith, below)))) k h
      where
        go : (t : Bool) → is_kept n ≡ t → ((k : ℕ) → k < length (kept_after states speeds lane n) → P (get_or (kept_after states speeds lane n) k 0)) → (k : ℕ) → k < length (pick t (kept_after states speeds lane n ++ (get_or lane n 0 ∷ [])) (kept_after states speeds lane n)) → P (get_or (pick t (kept_after states speeds lane n ++ (get_or lane n 0 ∷ [])) (kept_after states speeds lane n)) k 0)
        go true q before = each_append P (kept_after states speeds lane n) (get_or lane n 0) before (each n (omega arith) q)
        go false q before = before

  -- two lanes have as many values for the kept seconds
  pub kept_both : (lane other : List ℕ) (i : ℕ) → length (kept_after states speeds lane i) ≡ length (kept_after states speeds other i)
  unfolding kept_after after_first
  kept_both lane other zero = refl
  kept_both lane other (suc i) = go (is_kept i) (kept_both lane other i)
    where
      go : (t : Bool) → length (kept_after states speeds lane i) ≡ length (kept_after states speeds other i) → length (pick t (kept_after states speeds lane i ++ (get_or lane i 0 ∷ [])) (kept_after states speeds lane i)) ≡ length (pick t (kept_after states speeds other i ++ (get_or other i 0 ∷ [])) (kept_after states speeds other i))
      go true h = rw (length-append, length-append) (omega arith)
      go false h = h

  -- after i seconds: the lane begins with the values of those kept, and the rest is as it was
  pub record Front (lane before : List ℕ) (i count : ℕ) (now : List ℕ) : Type 0 where
    pub counted : count ≡ length (kept_after states speeds lane i)
    pub stored : now ≡ with_front (kept_after states speeds lane i) before
    pub long : length now ≡ length before

  pub front_none : (lane before : List ℕ) → Front lane before 0 0 before
  front_none lane before = record { counted = rw kept_none refl; stored = rw kept_none refl; long = refl }

  module _ {lane before now : List ℕ} {i count : ℕ} (f : Front lane before i count now) where
    pub front_same : is_kept i ≡ false → Front lane before (i + 1) count now
    front_same q = record { counted = rw (kept_same lane i q) f.counted; stored = rw (kept_same lane i q) f.stored; long = f.long }

    -- there is a place for one more
    pub front_room : i < length before → count < length now
    front_room h = omega (arith, f.counted, f.long, kept_at_most lane i)

    pub front_more : is_kept i ≡ true → i < length before → Front lane before (i + 1) (count + 1) (set now count (get_or lane i 0))
    front_more q h =
        let longer : length (kept_after states speeds lane (i + 1)) ≡ length (kept_after states speeds lane i) + 1 = rw (kept_more lane i q, length-append) refl in
        record {
          counted = omega (arith, longer, f.counted);
          stored = rw (f.stored, f.counted, longer, kept_more lane i q) (store_next (kept_after states speeds lane i) before (length (kept_after states speeds lane i)) (get_or lane i 0) refl (omega (arith, kept_at_most lane i)));
          long = length-set now count (get_or lane i 0) ∙ f.long;
        }
