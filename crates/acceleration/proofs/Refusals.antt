-- What follows where nothing is refused of a trip's lanes and an index. Assumes nothing.
use Prim.Native.Nat.{ℕ, ◌≤◌, ◌<◌}
use mathlib.Core.Path.{◌≡◌, refl}
use mathlib.Core.Bool.{Bool, true, false, not, ◌||◌}
use borrow.Author.Tests.{eqb-false, leb-false, ltb-false}
use lib.Dec.{leb, ltb}
use Rattle.base.specs.Refusal.{fault}
use Rattle.base.specs.Limits.{trip_limit}
use Rattle.base.specs.Second.{too_many}
use Rattle.base.specs.Words.{pick}
use Rattle.base.proofs.Tests.{or_left, or_right}
use Rattle.second.specs.Lanes.{Lanes, seconds_in, lanes_agree, second_in_range, first_bad_second, none_has_values}
use Rattle.second.specs.Facts.{SameLengths}
use Rattle.second.proofs.Lanes.{agree, each_in_range}
use Rattle.acceleration.specs.D.{fault_of}

-- what an accepted call knows
pub record Accepted (trip : Lanes) (i : ℕ) : Type 0 where
  pub lengths : SameLengths trip
  pub few : seconds_in trip ≤ trip_limit
  pub good : (k : ℕ) → k < seconds_in trip → second_in_range trip k ≡ true
  pub some : none_has_values trip.states ≡ false
  pub inside : i < seconds_in trip

pub accepted_facts : (trip : Lanes) (i : ℕ) → (fault_of trip i).number ≡ 0 → Accepted trip i
unfolding fault_of
accepted_facts trip i = go (lanes_agree trip) refl (too_many n) refl (ltb bad n) refl (none_has_values trip.states || leb n i) refl
  where
    n : ℕ
    n = seconds_in trip

    bad : ℕ
    bad = first_bad_second trip

    go : (t₁ : Bool) → lanes_agree trip ≡ t₁ → (t₂ : Bool) → too_many n ≡ t₂ → (t₃ : Bool) → ltb bad n ≡ t₃ → (t₄ : Bool) → (none_has_values trip.states || leb n i) ≡ t₄ → (pick (not t₁) (fault 1 0) (pick t₂ (fault 2 0) (pick t₃ (fault 3 bad) (pick t₄ (fault 4 0) (fault 0 0))))).number ≡ 0 → Accepted trip i
    go false e₁ t₂ e₂ t₃ e₃ t₄ e₄ h = absurd (eqb-false 1 0 refl h)
    go true e₁ true e₂ t₃ e₃ t₄ e₄ h = absurd (eqb-false 2 0 refl h)
    go true e₁ false e₂ true e₃ t₄ e₄ h = absurd (eqb-false 3 0 refl h)
    go true e₁ false e₂ false e₃ true e₄ h = absurd (eqb-false 4 0 refl h)
    go true e₁ false e₂ false e₃ false e₄ h =
        record {
          lengths = agree trip e₁;
          few = ltb-false trip_limit n e₂;
          good = each_in_range trip (ltb-false bad n e₃);
          some = or_left (none_has_values trip.states) (leb n i) e₄;
          inside = leb-false n i (or_right (none_has_values trip.states) (leb n i) e₄);
        }
