-- What the longest gap says: over k missing in a row. Assumes nothing.
use Prim.Native.Nat.{ℕ, zero, suc, ◌+◌, ◌-◌, ◌≤◌, ◌<◌, max}
use mathlib.Core.Path.{◌≡◌, refl}
use mathlib.Core.Bool.{Bool, true, false}
use mathlib.Core.List.{List}
use native.Mathlib.Nat.{add-suc}
use native.Mathlib.Omega.{arith}
use borrow.Author.Tests.{ltb-true, ltb-false}
use lib.Dec.{ltb, eqb}
use lib.ListN.{get_or}
use Rattle.base.specs.Second.{missing}
use Rattle.base.specs.Words.{pick, after_first}
use Rattle.tally.specs.Facts.{Gap}
use Rattle.tally.specs.Sets.{is_missing}
use Rattle.tally.specs.Counts.{gap_after, longest_gap}
use Rattle.tally.specs.Inside.{gap_with}
use Rattle.tally.proofs.Seconds.{gap_none}

-- a gap of more than k missing seconds that ends the first so many seconds
record LongAt (states : List ℕ) (n k : ℕ) : Type 0 where
  ending : ℕ
  within : ending ≤ n
  long : k < gap_after states ending

module _ (states : List ℕ) where
  -- the gap that ends the first i seconds is of missing seconds
  gap_missing : (i : ℕ) → (gap_after states i ≤ i) × ((k : ℕ) → i < k + suc (gap_after states i) → k < i → is_missing states k ≡ true)
  unfolding gap_after after_first
  gap_missing zero = (omega arith, λ k h (none : k < 0). absurd (omega arith))
  gap_missing (suc i) = go (eqb (get_or states i 0) missing) refl (gap_missing i)
    where
      go : (t : Bool) → eqb (get_or states i 0) missing ≡ t → (gap_after states i ≤ i) × ((k : ℕ) → i < k + suc (gap_after states i) → k < i → is_missing states k ≡ true) → (pick t (gap_after states i + 1) 0 ≤ suc i) × ((k : ℕ) → suc i < k + suc (pick t (gap_after states i + 1) 0) → k < suc i → is_missing states k ≡ true)
      go false q before = (omega arith, λ k (h : suc i < k + 1) (below : k < suc i). absurd (omega arith))
      go true q before = (omega (arith, before.0), λ k (h : suc i < k + suc (gap_after states i + 1)) (below : k < suc i). at k h below (ltb k i) refl)
        where
          at : (k : ℕ) → suc i < k + suc (gap_after states i + 1) → k < suc i → (s : Bool) → ltb k i ≡ s → is_missing states k ≡ true
          at k h below true s = before.1 k (omega arith) (ltb-true k i s)
          at k h below false s =
              let same : k ≡ i = omega (arith, ltb-false k i s) in
              rw same q

  pub gap_at_most : (i : ℕ) → gap_after states i ≤ i
  gap_at_most i = (gap_missing i).0

  gap_step : (i : ℕ) → gap_after states (suc i) ≡ gap_with (gap_after states i) (get_or states i 0)
  unfolding gap_after after_first
  gap_step i = refl

  longest_none : longest_gap states 0 ≡ 0
  unfolding longest_gap after_first
  longest_none = refl

  longest_step : (i : ℕ) → longest_gap states (suc i) ≡ max (longest_gap states i) (gap_after states (suc i))
  unfolding longest_gap after_first
  longest_step i = refl

  -- a gap found is as long as the missing seconds behind it
  gap_at_least : (f j : ℕ) → ((k : ℕ) → k < j → is_missing states (f + k) ≡ true) → j ≤ gap_after states (f + j)
  gap_at_least f zero all = omega arith
  gap_at_least f (suc j) all =
      let here : is_missing states (f + j) ≡ true = all j (omega arith) in
      rw (add-suc f j, gap_step (f + j), here) (omega (arith, gap_at_least f j (λ k (h : k < j). all k (omega arith))))

  -- the longest gap is as long as each
  longest_at_least : (i n : ℕ) → i ≤ n → gap_after states i ≤ longest_gap states n
  longest_at_least zero zero h = rw (gap_none states) (omega arith)
  longest_at_least (suc i) zero h = absurd (omega (arith, h))
  longest_at_least i (suc n) h = go (ltb n i) refl (longest_at_least i n)
    where
      go : (t : Bool) → ltb n i ≡ t → (i ≤ n → gap_after states i ≤ longest_gap states n) → gap_after states i ≤ longest_gap states (suc n)
      go true q before =
          let same : i ≡ suc n = omega (arith, ltb-true n i q) in
          rw (same, longest_step n) (omega arith)
      go false q before =
          rw (longest_step n)
          (omega (arith, before (ltb-false n i q)))

  -- and is one of them
  longest_is : (k n : ℕ) → k < longest_gap states n → LongAt states n k
  longest_is k zero h = absurd (omega (arith, longest_none, h))
  longest_is k (suc n) h =
      go (ltb (longest_gap states n) (gap_after states (suc n))) refl (rw (longest_step n) at h) (longest_is k n)
    where
      go : (t : Bool) → ltb (longest_gap states n) (gap_after states (suc n)) ≡ t → k < max (longest_gap states n) (gap_after states (suc n)) → (k < longest_gap states n → LongAt states n k) → LongAt states (suc n) k
      go true q long before = record { ending = suc n; within = omega arith; long = omega (arith, ltb-true (longest_gap states n) (gap_after states (suc n)) q) }
      go false q long before =
          let there : LongAt states n k = before (omega (arith, ltb-false (longest_gap states n) (gap_after states (suc n)) q)) in
          record { ending = there.ending; within = omega (arith, there.within); long = there.long }

  -- over k missing in a row, exactly when the longest gap is above k
  pub gap_found : (n k : ℕ) → k < longest_gap states n → Gap states n k
  gap_found n k h =
      let there : LongAt states n k = longest_is k n h in
      let held = gap_missing there.ending in
      record {
        from = there.ending - suc k;
        within = omega (arith, there.within, there.long, held.0);
        all_missing = λ j (below : j < suc k). held.1 (there.ending - suc k + j) (omega (arith, there.long, held.0)) (omega (arith, there.long, held.0));
      }

  pub gap_counted : (n k : ℕ) → Gap states n k → k < longest_gap states n
  gap_counted n k gap =
      omega (arith, gap_at_least gap.from (suc k) gap.all_missing, longest_at_least (gap.from + suc k) n gap.within)
