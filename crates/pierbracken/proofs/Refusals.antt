-- Each refusal of the code has a number of its own, so a result is determined by what it answers or the number and the place that it
-- refuses with: D of a second and the percentile are determined, as the other calls are.
use Rattle.std.specs.Prelude.{ℕ, ◌≡◌, refl, eqb, List, Result, Ok, Err}
use Rattle.std.proofs.Common.{sym, ◌∙◌, ap}
use Rattle.base.specs.declared.refusal.Refusal.{Refusal}
use Rattle.base.specs.declared.refusal.Refusal.TheVariants.{LanesDiffer, TooMany, OutOfRange, NoSecond, PlanOutOfRange, LaneTooShort, CutItem, UnknownKind, MassInput, MassTooLarge, PlanMisplaced, TooFewValues, StateNotReached}
use Rattle.base.specs.declared.refusal.Refused.{Refused}
use Rattle.base.specs.Refusal.{Fault, number_of, answer_in}
use Rattle.base.specs.Words.{pick}
use Rattle.acceleration.proofs.d_of_second.Reads as d_of_second_call
use Rattle.percentile.proofs.percentile.Reads as percentile_call
use Rattle.pierbracken.specs.Calls.{Determines, determined_as}
use Rattle.pierbracken.specs.Calls as calls

-- the refusal of a number
abbrev numbered : ℕ → Refusal
numbered n =
    pick (eqb n 1) LanesDiffer
    (pick (eqb n 2) TooMany
    (pick (eqb n 3) OutOfRange
    (pick (eqb n 4) NoSecond
    (pick (eqb n 5) PlanOutOfRange
    (pick (eqb n 6) LaneTooShort
    (pick (eqb n 7) CutItem
    (pick (eqb n 8) UnknownKind
    (pick (eqb n 9) MassInput
    (pick (eqb n 10) MassTooLarge
    (pick (eqb n 11) PlanMisplaced
    (pick (eqb n 12) TooFewValues StateNotReached)))))))))))

is_numbered : (refusal : Refusal) → numbered (number_of refusal) ≡ refusal
is_numbered LanesDiffer = refl
is_numbered TooMany = refl
is_numbered OutOfRange = refl
is_numbered NoSecond = refl
is_numbered PlanOutOfRange = refl
is_numbered LaneTooShort = refl
is_numbered CutItem = refl
is_numbered UnknownKind = refl
is_numbered MassInput = refl
is_numbered MassTooLarge = refl
is_numbered PlanMisplaced = refl
is_numbered TooFewValues = refl
is_numbered StateNotReached = refl

-- a result of the code, by what it answers or refuses
abbrev back : {A : Type 0} → Result A Fault → Result A Refused
back (Ok answer) = Ok answer
back (Err given) = Err (record { refusal = numbered given.number; place = given.place })

is_back : {A : Type 0} (x : Result A Refused) → back (answer_in x) ≡ x
is_back (Ok answer) = refl
is_back (Err refused) = λ i. Err (record { refusal = is_numbered refused.refusal i; place = refused.place })

pub told_apart : {A : Type 0} (x y : Result A Refused) → answer_in x ≡ answer_in y → x ≡ y
told_apart x y same = sym (is_back x) ∙ ap back same ∙ is_back y

pub d_determined : Determines (Unit {0}) d_of_second_call.Post (λ κs e. tt)
d_determined = record { same = determined_as calls.d_of_second (λ κs x y. told_apart x y) }

pub percentile_determined : Determines (List ℕ) percentile_call.Post (λ κs e. e.1.0.now)
percentile_determined = record { same = determined_as calls.percentile (λ κs x y. told_apart x y) }
