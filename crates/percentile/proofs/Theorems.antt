-- What the percentile call amounts to: refused exactly when, nothing else written. Assumes nothing.
use Prim.Native.Nat.{ℕ}
use mathlib.Core.Path.{◌≡◌, refl}
use mathlib.Core.Bool.{Bool, true, false}
use mathlib.Core.List.{List}
use mathlib.Core.Logic.{◌↔◌}
use borrow.Author.Tests.{ltb-true, ltb-false, lt-ltb, le-ltb}
use lib.Dec.{ltb, eqb}
use lib.ListN.{length}
use Rattle.std.specs.Prelude.{Result, Ok, Err}
use Rattle.base.specs.Refusal as base
use Rattle.base.specs.Refusal.{Fault, fault, answer_in}
use Rattle.base.specs.declared.refusal.Refused.{Refused}
use Rattle.base.specs.Limits.{trip_limit}
use Rattle.base.specs.Second.{too_many}
use Rattle.base.specs.Words.{pick}
use Rattle.base.specs.InFront.{InFront}
use Rattle.base.proofs.InFront.{in_front}
use Rattle.order.specs.Sort.{sort}
use Rattle.order.proofs.Laws.{sort-length}
use Rattle.percentile.specs.Percentile.{fewest, q_of, first_bad_product, fault_of, answer_of, lane_of, fault_in}
use Rattle.percentile.specs.Outcomes.{Outcome, if_too_many, too_few, if_too_short, if_out_of_range, fine}
use Rattle.percentile.proofs.Refusals.{accepted_facts, lane_accepted}

module _ (values : List ℕ) (places : ℕ) where
  -- one of them holds, with the fault that is given
  pub outcome : Outcome values places (fault_of values places)
  unfolding fault_of
  outcome = go (too_many n) refl (ltb n fewest) refl (ltb places n) refl (ltb bad n) refl
    where
      n : ℕ
      n = length values

      bad : ℕ
      bad = first_bad_product values

      go : (t₁ : Bool) → too_many n ≡ t₁ → (t₂ : Bool) → ltb n fewest ≡ t₂ → (t₃ : Bool) → ltb places n ≡ t₃ → (t₄ : Bool) → ltb bad n ≡ t₄ → Outcome values places (pick t₁ (fault 2 0) (pick t₂ (fault 12 0) (pick t₃ (fault 6 0) (pick t₄ (fault 3 bad) (fault 0 0)))))
      go true e₁ t₂ e₂ t₃ e₃ t₄ e₄ = if_too_many (ltb-true trip_limit n e₁)
      go false e₁ true e₂ t₃ e₃ t₄ e₄ = too_few (ltb-false trip_limit n e₁) (ltb-true n fewest e₂)
      go false e₁ false e₂ true e₃ t₄ e₄ = if_too_short (ltb-false trip_limit n e₁) (ltb-false n fewest e₂) (ltb-true places n e₃)
      go false e₁ false e₂ false e₃ true e₄ = if_out_of_range (ltb-false trip_limit n e₁) (ltb-false n fewest e₂) (ltb-false places n e₃) (ltb-true bad n e₄)
      go false e₁ false e₂ false e₃ false e₄ = fine (ltb-false trip_limit n e₁) (ltb-false n fewest e₂) (ltb-false places n e₃) (ltb-false bad n e₄)

  -- and no other: each is given whenever what it says holds
  pub only : {f : Fault} → Outcome values places f → fault_of values places ≡ f
  unfolding fault_of
  only (if_too_many h) = rw (lt-ltb trip_limit (length values) h) refl
  only (too_few few h) = rw (le-ltb trip_limit (length values) few, lt-ltb (length values) fewest h) refl
  only (if_too_short few some h) =
      rw (le-ltb trip_limit (length values) few, le-ltb (length values) fewest some, lt-ltb places (length values) h) refl
  only (if_out_of_range few some room h) =
      rw (le-ltb trip_limit (length values) few, le-ltb (length values) fewest some, le-ltb places (length values) room, lt-ltb (first_bad_product values) (length values) h) refl
  only (fine few some room h) =
      rw (le-ltb trip_limit (length values) few, le-ltb (length values) fewest some, le-ltb places (length values) room, le-ltb (first_bad_product values) (length values) h) refl

  -- the call gives a number and a place exactly when what stands beside them holds
  pub refused_exactly : (f : Fault) → (fault_of values places ≡ f) ↔ Outcome values places f
  refused_exactly f = (λ e. rw e at outcome, only)

  -- the answer's number and place are those of the chain of tests
  pub answer_fault : fault_in (answer_of values places) ≡ fault_of values places
  unfolding answer_of fault_in
  answer_fault = go (fault_of values places) outcome
    where
      go : (f : Fault) → Outcome values places f → fault_in (pick (eqb f.number 0) (Ok (q_of (sort values))) (Err f)) ≡ f
      go _ (if_too_many h) = refl
      go _ (too_few few h) = refl
      go _ (if_too_short few some h) = refl
      go _ (if_out_of_range few some room h) = refl
      go _ (fine few some room h) = refl

-- what the code refuses is what its answer says
pub given_fault : (answer : Result ℕ Refused) → base.fault_in answer ≡ fault_in (answer_in answer)
unfolding fault_in
given_fault (Ok q) = refl
given_fault (Err refused) = refl

-- an accepted call ranks the values into the first places, and changes no other
pub accepted_writes : (values lane : List ℕ) → (fault_of values (length lane)).number ≡ 0 → InFront (sort values) (length values) lane (lane_of values lane)
accepted_writes values lane z =
    let facts = accepted_facts values (length lane) z in
    rw (lane_accepted values lane z) (in_front (sort values) lane (length values) (sort-length values) facts.room)
