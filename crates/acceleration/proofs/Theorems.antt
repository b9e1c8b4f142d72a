-- What D of one second amounts to: refused exactly when, and the answer where it is not. Assumes nothing.
use Prim.Native.Nat.{ℕ}
use mathlib.Core.Path.{◌≡◌, refl, ap}
use mathlib.Core.Bool.{Bool, true, false, not, ◌||◌, or-true}
use mathlib.Core.Logic.{inl, inr, ◌↔◌}
use borrow.Author.Tests.{ltb-true, ltb-false, leb-true, leb-false, lt-ltb, le-ltb, le-leb, lt-leb, eq-eqb}
use lib.Dec.{leb, ltb, eqb}
use Rattle.std.proofs.Common.{Some, None, Ok, Err}
use Rattle.base.specs.Refusal.{Fault, fault}
use Rattle.base.specs.Limits.{trip_limit}
use Rattle.base.specs.Second.{too_many}
use Rattle.base.specs.Words.{pick}
use Rattle.second.specs.Lanes.{Lanes, seconds_in, lanes_agree, first_bad_second, none_has_values}
use Rattle.second.proofs.Lanes.{agree, agrees, not_agree}
use Rattle.second.proofs.Facts.{first_bad_at, is_first_bad, has_bad, all_in_range, has_no_bad, says_none, some_second, says_some}
use Rattle.second.proofs.Facts as facts
use Rattle.acceleration.specs.D.{d_of, has_d, fault_of, acceleration_of, fault_in}
use Rattle.acceleration.specs.Outcomes.{Outcome, if_lanes_differ, if_too_many, if_out_of_range, if_no_second, fine}

module _ (trip : Lanes) (i : ℕ) where
  abbrev n : ℕ
  n = seconds_in trip

  abbrev bad : ℕ
  bad = first_bad_second trip

  -- one of them holds, with the fault that is given
  pub outcome : Outcome trip i (fault_of trip i)
  unfolding fault_of
  outcome = go (lanes_agree trip) refl (too_many n) refl (ltb bad n) refl (none_has_values trip.states) refl (leb n i) refl
    where
      go : (t₁ : Bool) → lanes_agree trip ≡ t₁ → (t₂ : Bool) → too_many n ≡ t₂ → (t₃ : Bool) → ltb bad n ≡ t₃ → (t₄ : Bool) → none_has_values trip.states ≡ t₄ → (t₅ : Bool) → leb n i ≡ t₅ → Outcome trip i (pick (not t₁) (fault 1 0) (pick t₂ (fault 2 0) (pick t₃ (fault 3 bad) (pick (t₄ || t₅) (fault 4 0) (fault 0 0)))))
      go false e₁ t₂ e₂ t₃ e₃ t₄ e₄ t₅ e₅ = if_lanes_differ (not_agree trip e₁)
      go true e₁ true e₂ t₃ e₃ t₄ e₄ t₅ e₅ = if_too_many (agree trip e₁) (ltb-true trip_limit n e₂)
      go true e₁ false e₂ true e₃ t₄ e₄ t₅ e₅ = if_out_of_range (agree trip e₁) (ltb-false trip_limit n e₂) bad (first_bad_at trip e₃)
      go true e₁ false e₂ false e₃ true e₄ t₅ e₅ = if_no_second (agree trip e₁) (ltb-false trip_limit n e₂) (all_in_range trip e₃) (inl (facts.no_second_lem trip e₄))
      go true e₁ false e₂ false e₃ false e₄ true e₅ = if_no_second (agree trip e₁) (ltb-false trip_limit n e₂) (all_in_range trip e₃) (inr (leb-true n i e₅))
      go true e₁ false e₂ false e₃ false e₄ false e₅ = fine (agree trip e₁) (ltb-false trip_limit n e₂) (all_in_range trip e₃) (some_second trip e₄) (leb-false n i e₅)

  -- and no other: each is given whenever what it says holds
  pub only : {f : Fault} → Outcome trip i f → fault_of trip i ≡ f
  unfolding fault_of
  only (if_lanes_differ differ) = go (lanes_agree trip) refl
    where
      go : (t : Bool) → lanes_agree trip ≡ t → pick (not (lanes_agree trip)) (fault 1 0) (pick (too_many n) (fault 2 0) (pick (ltb bad n) (fault 3 bad) (pick (none_has_values trip.states || leb n i) (fault 4 0) (fault 0 0)))) ≡ fault 1 0
      go false e = rw e refl
      go true e = absurd (differ (agree trip e))
  only (if_too_many same h) = rw (agrees trip same, lt-ltb trip_limit n h) refl
  only (if_out_of_range same few bad at) = rw (agrees trip same, le-ltb trip_limit n few, has_bad trip bad at) (ap (fault 3) (is_first_bad trip bad at))
  only (if_no_second same few good (inl none)) = rw (agrees trip same, le-ltb trip_limit n few, has_no_bad trip good, says_none trip none) refl
  only (if_no_second same few good (inr past)) = rw (agrees trip same, le-ltb trip_limit n few, has_no_bad trip good, le-leb n i past, or-true (none_has_values trip.states)) refl
  only (fine same few good some inside) = rw (agrees trip same, le-ltb trip_limit n few, has_no_bad trip good, says_some trip some, lt-leb n i inside) refl

  -- the call gives a number and a place exactly when what stands beside them holds
  pub refused_exactly : (f : Fault) → (fault_of trip i ≡ f) ↔ Outcome trip i f
  refused_exactly f = (λ e. rw e at outcome, only)

  -- the answer's number and place are those of the chain of tests
  pub answer_fault : fault_in (acceleration_of trip i) ≡ fault_of trip i
  unfolding acceleration_of fault_in
  answer_fault = go (fault_of trip i) outcome
    where
      go : (f : Fault) → Outcome trip i f → fault_in (pick (eqb f.number 0) (Ok (pick (has_d trip.states i) (Some (d_of trip.speeds i)) None)) (Err f)) ≡ f
      go _ (if_lanes_differ differ) = refl
      go _ (if_too_many same h) = refl
      go _ (if_out_of_range same few place at) = refl
      go _ (if_no_second same few good none) = refl
      go _ (fine same few good some inside) = refl

  -- accepted: D where the second has one, and that it has none where it has not
  pub accepted_has : (fault_of trip i).number ≡ 0 → has_d trip.states i ≡ true → acceleration_of trip i ≡ Ok (Some (d_of trip.speeds i))
  unfolding acceleration_of
  accepted_has h has = rw (eq-eqb (fault_of trip i).number 0 h, has) refl

  pub accepted_none : (fault_of trip i).number ≡ 0 → has_d trip.states i ≡ false → acceleration_of trip i ≡ Ok None
  unfolding acceleration_of
  accepted_none h none = rw (eq-eqb (fault_of trip i).number 0 h, none) refl
