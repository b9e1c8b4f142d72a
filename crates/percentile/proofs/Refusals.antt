-- What follows where nothing is refused of values and a lane. Assumes nothing.
use Prim.Native.Nat.{ℕ, ◌≤◌}
use mathlib.Core.Path.{◌≡◌, refl, sym, ◌∙◌, ap, ap₂}
use mathlib.Core.Bool.{Bool, true, false}
use mathlib.Core.List.{List, ◌++◌}
use native.Mathlib.Omega.{arith}
use borrow.Author.Tests.{eqb-false, ltb-false, eq-eqb, ne_eqb}
use lib.Dec.{ltb}
use lib.ListN.{length, take, drop}
use Rattle.std.specs.Prelude.{Ok, Err}
use Rattle.base.specs.Refusal as base
use Rattle.base.specs.Refusal.{fault, accepted, number_of}
use Rattle.base.specs.declared.refusal.Refused.{Refused}
use Rattle.base.specs.Limits.{trip_limit}
use Rattle.base.specs.Second.{too_many}
use Rattle.base.specs.Words.{pick, with_front}
use Rattle.base.proofs.Numbers.{number_above_0}
use Rattle.order.specs.Sort.{sort}
use Rattle.percentile.specs.Percentile.{fewest, first_bad_product, fault_of, q_of, q_or_zero, answer_of, lane_of}
use Rattle.percentile.proofs.Front.{enough, filled_front, filled_rest, ranked_front}

pub record Accepted (values : List ℕ) (places : ℕ) : Type 0 where
  pub few : length values ≤ trip_limit
  pub enough : fewest ≤ length values
  pub room : length values ≤ places

pub accepted_facts : (values : List ℕ) (places : ℕ) → (fault_of values places).number ≡ 0 → Accepted values places
unfolding fault_of
accepted_facts values places = go (too_many n) refl (ltb n fewest) refl (ltb places n) refl (ltb bad n)
  where
    n : ℕ
    n = length values

    bad : ℕ
    bad = first_bad_product values

    go : (t₁ : Bool) → too_many n ≡ t₁ → (t₂ : Bool) → ltb n fewest ≡ t₂ → (t₃ : Bool) → ltb places n ≡ t₃ → (t₄ : Bool) → (pick t₁ (fault 2 0) (pick t₂ (fault 12 0) (pick t₃ (fault 6 0) (pick t₄ (fault 3 bad) (fault 0 0))))).number ≡ 0 → Accepted values places
    go true e₁ t₂ e₂ t₃ e₃ t₄ h = absurd (eqb-false 2 0 refl h)
    go false e₁ true e₂ t₃ e₃ t₄ h = absurd (eqb-false 12 0 refl h)
    go false e₁ false e₂ true e₃ t₄ h = absurd (eqb-false 6 0 refl h)
    go false e₁ false e₂ false e₃ true h = absurd (eqb-false 3 0 refl h)
    go false e₁ false e₂ false e₃ false h =
        record { few = ltb-false trip_limit n e₁; enough = ltb-false n fewest e₂; room = ltb-false places n e₃ }

-- so also where the check of the code refuses nothing
pub accepted_given : (values : List ℕ) (places : ℕ) → fault accepted 0 ≡ fault_of values places → Accepted values places
accepted_given values places given = accepted_facts values places (sym (ap (λ f. f.number) given))

-- the answer and the lane, refused and accepted
module _ (values lane : List ℕ) where
  pub answer_refused : ((fault_of values (length lane)).number ≡ 0 → ⊥) → answer_of values (length lane) ≡ Err (fault_of values (length lane))
  unfolding answer_of
  answer_refused h = rw (ne_eqb (fault_of values (length lane)).number 0 h) refl

  pub lane_refused : ((fault_of values (length lane)).number ≡ 0 → ⊥) → lane_of values lane ≡ lane
  unfolding lane_of
  lane_refused h = rw (ne_eqb (fault_of values (length lane)).number 0 h) refl

  pub answer_accepted : (fault_of values (length lane)).number ≡ 0 → answer_of values (length lane) ≡ Ok (q_of (sort values))
  unfolding answer_of
  answer_accepted h = rw (eq-eqb (fault_of values (length lane)).number 0 h) refl

  pub lane_accepted : (fault_of values (length lane)).number ≡ 0 → lane_of values lane ≡ with_front (sort values) lane
  unfolding lane_of
  lane_accepted h = rw (eq-eqb (fault_of values (length lane)).number 0 h) refl

  -- where the check of the code refuses
  pub refused_given : (refused : Refused) → base.fault_of refused ≡ fault_of values (length lane) → (Err (base.fault_of refused) ≡ answer_of values (length lane)) × (lane ≡ lane_of values lane)
  refused_given refused given =
      let number : number_of refused.refusal ≡ (fault_of values (length lane)).number = ap (λ f. f.number) given in
      let not-0 : (fault_of values (length lane)).number ≡ 0 → ⊥ = λ z. omega (arith, number_above_0 refused.refusal, number, z) in
      (rw given (sym (answer_refused not-0)), sym (lane_refused not-0))

  -- where it refuses nothing, and the values are copied to the front of the lane and ranked there
  pub ranked_given :
      (filled after : List ℕ) (q : ℕ) → fault accepted 0 ≡ fault_of values (length lane) → filled ≡ with_front values lane
      → (q ≡ q_or_zero (take (length values) filled)) × (after ≡ sort (take (length values) filled) ++ drop (length values) filled)
      → (Ok q ≡ answer_of values (length lane)) × (after ≡ lane_of values lane)
  ranked_given filled after q given is ranked =
      let known : Accepted values (length lane) = accepted_given values (length lane) given in
      let number : (fault_of values (length lane)).number ≡ 0 = sym (ap (λ f. f.number) given) in
      let first : take (length values) filled ≡ values = filled_front values lane known.room is in
      let others : drop (length values) filled ≡ drop (length values) lane = filled_rest values lane known.room is in (
        ap Ok (ranked.0 ∙ ap q_or_zero first ∙ enough values known.enough) ∙ sym (answer_accepted number),
        ranked.1 ∙ ap₂ (λ (f r : List ℕ). sort f ++ r) first others ∙ ranked_front values lane ∙ sym (lane_accepted number),
      )
