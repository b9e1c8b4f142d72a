-- What crosses: refused as the call that it stands for, a kind above 3 by 9; zeros beside the number and place of a refusal; the value of D. Assumes nothing.
use Prim.Native.Nat.{ℕ, ◌≤◌}
use mathlib.Core.Path.{◌≡◌, refl, ◌∙◌}
use mathlib.Core.Bool.{Bool, true, false}
use mathlib.Core.Logic.{◌↔◌}
use lib.Dec.{leb}
use lib.Ieee.{Float}
use lib.IntN.{ℤ, pos, negsuc, ◌-ℤ◌, +ℤ_idl, +ℤ_idr}
use borrow.Author.Tests.{leb-true, leb-false, ne_eqb}
use Rattle.std.specs.Prelude.{Option, Some, None, Result, Ok, Err}
use Rattle.base.specs.declared.refusal.Refusal.{Refusal}
use Rattle.base.specs.declared.refusal.Refusal.TheVariants.{MassInput}
use Rattle.base.specs.Refusal.{Fault, fault, number_of}
use Rattle.base.specs.Words.{pick}
use Rattle.second.specs.Lanes.{Lanes}
use Rattle.mass.specs.declared.Setting.{Setting}
use Rattle.mass.specs.Mass.{mass_answer}
use Rattle.mass.specs.Outcomes as mass
use Rattle.mass.proofs.Theorems as masses
use Rattle.item.specs.Item as items
use Rattle.acceleration.specs.D as d
use Rattle.acceleration.proofs.Theorems as accelerations
use Rattle.percentile.specs.Percentile as percentiles
use Rattle.crossing.specs.Concentration.{reading_of, mass_across, answer_of}
use Rattle.crossing.specs.Items.{no_contents, contents_at, item_answer, front_across}
use Rattle.crossing.specs.Accelerations.{acceleration_across, percentile_across}
use Rattle.crossing.specs.Outcomes.{Outcome, no_kind, bad_input, too_large, fine}
use Rattle.crossing.proofs.Readings.{if_unknown_kind, known_kind}

-- ---- the mass calls
module _ (scale : Float) (limit kind : ℕ) (value : Float) (s : Setting) where
  abbrev across : Result ℕ Refusal
  across = mass_across (mass_answer scale limit) kind value s

  -- one of them holds, with the number that is given
  outcome : Outcome scale limit kind value s (answer_of across).refusal
  unfolding mass_across answer_of
  outcome = go (leb kind 3) refl
    where
      of_kind : {w : Result ℕ Refusal} → kind ≤ 3 → mass.Outcome scale limit (reading_of kind value) s w → Outcome scale limit kind value s (answer_of w).refusal
      of_kind known (mass.bad_input p) = bad_input known p
      of_kind known (mass.too_large p l) = too_large known p l
      of_kind known (mass.fine p l) = fine known p l

      go : (t : Bool) → leb kind 3 ≡ t → Outcome scale limit kind value s (answer_of (pick t (mass_answer scale limit (reading_of kind value) s) (Err MassInput))).refusal
      go true e = of_kind (leb-true kind 3 e) (masses.outcome scale limit (reading_of kind value) s)
      go false e = no_kind (leb-false kind 3 e)

  -- a reading of a kind is answered as its outcome says
  answered : {w : Result ℕ Refusal} → kind ≤ 3 → mass.Outcome scale limit (reading_of kind value) s w → (answer_of across).refusal ≡ (answer_of w).refusal
  answered known o = λ i. (answer_of ((known_kind (mass_answer scale limit) kind value s known ∙ masses.only scale limit (reading_of kind value) s o) i)).refusal

  -- and no other: each is given whenever what it says holds
  only : {number : ℕ} → Outcome scale limit kind value s number → (answer_of across).refusal ≡ number
  unfolding answer_of
  only (no_kind h) = λ i. (answer_of (if_unknown_kind (mass_answer scale limit) kind value s h i)).refusal
  only (bad_input known p) = answered known (mass.bad_input p)
  only (too_large known p l) = answered known (mass.too_large p l)
  only (fine known p l) = answered known (mass.fine p l)

  pub mass_exactly : (number : ℕ) → ((answer_of across).refusal ≡ number) ↔ Outcome scale limit kind value s number
  mass_exactly number = (λ e. rw e at outcome, only)

-- ---- "with all other results zero"
pub mass_zeros : (w : Result ℕ Refusal) → ((answer_of w).refusal ≡ 0 → ⊥) → answer_of w ≡ record { refusal = (answer_of w).refusal; mass = 0; place = 0 }
unfolding answer_of
mass_zeros (Ok m) refused = absurd (refused refl)
mass_zeros (Err refusal) refused = refl

pub item_zeros : (byte : ℕ) (front : items.Front) → (items.refusal_of front ≡ 0 → ⊥) → front_across byte front ≡ item_answer (items.refusal_of front) 0 no_contents 0 0
unfolding front_across contents_at items.refusal_of items.length_of items.place_of
item_zeros byte (Ok (item, size)) refused = absurd (refused refl)
item_zeros byte (Err refusal) refused = rw (ne_eqb (number_of refusal) 0 refused) refl

pub acceleration_zeros : (found : Result (Option ℤ) Fault) → ((d.fault_in found).number ≡ 0 → ⊥) → acceleration_across found ≡ record { refusal = (d.fault_in found).number; has_d = false; rise = 0; fall = 0; place = (d.fault_in found).place }
unfolding acceleration_across d.fault_in
acceleration_zeros (Ok found) refused = absurd (refused refl)
acceleration_zeros (Err fault) refused = refl

pub percentile_zeros : (found : Result ℕ Fault) → ((percentiles.fault_in found).number ≡ 0 → ⊥) → percentile_across found ≡ record { refusal = (percentiles.fault_in found).number; q = 0; place = (percentiles.fault_in found).place }
unfolding percentile_across percentiles.fault_in
percentile_zeros (Ok q) refused = absurd (refused refl)
percentile_zeros (Err fault) refused = refl

-- ---- the refusals
pub acceleration_fault : (found : Result (Option ℤ) Fault) → fault (acceleration_across found).refusal (acceleration_across found).place ≡ d.fault_in found
unfolding acceleration_across d.fault_in
acceleration_fault (Ok None) = refl
acceleration_fault (Ok (Some (pos n))) = refl
acceleration_fault (Ok (Some (negsuc n))) = refl
acceleration_fault (Err given) = refl

pub percentile_fault : (found : Result ℕ Fault) → fault (percentile_across found).refusal (percentile_across found).place ≡ percentiles.fault_in found
unfolding percentile_across percentiles.fault_in
percentile_fault (Ok q) = refl
percentile_fault (Err given) = refl

-- ---- D as it crosses: whether there is one, and its value, how far it rises less how far it falls
module _ (trip : Lanes) (i : ℕ) (passed : (d.fault_of trip i).number ≡ 0) where
  pub d_crosses : (acceleration_across (d.acceleration_of trip i)).has_d ≡ d.has_d trip.states i
  unfolding acceleration_across
  d_crosses = go (d.has_d trip.states i) refl
    where
      number : (z : ℤ) → (acceleration_across (Ok (Some z))).has_d ≡ true
      number (pos n) = refl
      number (negsuc n) = refl

      go : (has : Bool) → d.has_d trip.states i ≡ has → (acceleration_across (d.acceleration_of trip i)).has_d ≡ has
      go true e = rw (accelerations.accepted_has trip i passed e) (number (d.d_of trip.speeds i))
      go false e = rw (accelerations.accepted_none trip i passed e) refl

pub rise_less_fall : (z : ℤ) → pos (acceleration_across (Ok (Some z))).rise -ℤ pos (acceleration_across (Ok (Some z))).fall ≡ z
unfolding acceleration_across
rise_less_fall (pos n) = +ℤ_idr (pos n)
rise_less_fall (negsuc n) = +ℤ_idl (negsuc n)
