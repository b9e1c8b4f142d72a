-- The answer and the lent lanes of a trip that is refused, and of one that is not. Assumes nothing.
use mathlib.Core.Path.{◌≡◌, refl, sym, ◌∙◌, ap}
use mathlib.Core.Bool.{true, false}
use lib.Dec.{eqb}
use Rattle.base.specs.declared.Plan.{Plan}
use Rattle.base.specs.declared.refusal.Refusal.{Refusal}
use Rattle.base.specs.declared.refusal.Refusal.TheVariants.{LanesDiffer, TooMany, OutOfRange, NoSecond, PlanOutOfRange, LaneTooShort, CutItem, UnknownKind, MassInput, MassTooLarge, PlanMisplaced, TooFewValues, StateNotReached}
use Rattle.base.specs.declared.refusal.Refused.{Refused}
use Rattle.base.specs.Refusal.{Fault, accepted, number_of, fault, fault_of}
use Rattle.second.specs.Lanes.{Lanes}
use Rattle.trip.specs.declared.Rooms.{Rooms}
use Rattle.trip.specs.Refusals.{trip_fault, is_accepted}
use Rattle.trip.specs.Trip.{evaluated, refused, answer_of}
use Rattle.trip.specs.Lent.{Lent, rooms_in, lent_written, lent_left}
use Rattle.trip.proofs.Passed.{Accepted, passed, is_accepted_lem}

module _ (plan : Plan) (trip : Lanes) (rooms : Rooms) where
  -- "A refusal returns its number and a place .., and writes into no lane"
  module _ (no_good : is_accepted plan trip rooms ≡ false) where
    pub refused_answer_lem : answer_of plan trip rooms ≡ refused (trip_fault plan trip rooms)
    unfolding answer_of
    refused_answer_lem = rw no_good refl

  -- "An accepted call changes only the places named for it."
  module _ (good : is_accepted plan trip rooms ≡ true) where
    pub accepted_answer : answer_of plan trip rooms ≡ evaluated plan trip
    unfolding answer_of
    accepted_answer = rw good refl

module _ (plan : Plan) (trip : Lanes) (lent : Lent) where
  pub refused_lent : is_accepted plan trip (rooms_in lent) ≡ false → lent_left plan trip lent ≡ lent
  unfolding lent_left
  refused_lent no_good = rw no_good refl

  pub accepted_lent : is_accepted plan trip (rooms_in lent) ≡ true → lent_left plan trip lent ≡ lent_written plan trip lent
  unfolding lent_left
  accepted_lent good = rw good refl

-- no refusal has the number of an accepted call
never_accepted : (refusal : Refusal) → eqb (number_of refusal) accepted ≡ false
never_accepted LanesDiffer = refl
never_accepted TooMany = refl
never_accepted OutOfRange = refl
never_accepted NoSecond = refl
never_accepted PlanOutOfRange = refl
never_accepted LaneTooShort = refl
never_accepted CutItem = refl
never_accepted UnknownKind = refl
never_accepted MassInput = refl
never_accepted MassTooLarge = refl
never_accepted PlanMisplaced = refl
never_accepted TooFewValues = refl
never_accepted StateNotReached = refl

-- a call that the code refuses, by the lanes that it was lent
module _ (plan : Plan) (trip : Lanes) (lent : Lent) (rooms : Rooms) (lanes : rooms ≡ rooms_in lent) (reason : Refused) (given : fault_of reason ≡ trip_fault plan trip rooms) where
  given_so : trip_fault plan trip (rooms_in lent) ≡ fault_of reason
  given_so = sym (given ∙ ap (trip_fault plan trip) lanes)

  no_good : is_accepted plan trip (rooms_in lent) ≡ false
  unfolding is_accepted
  no_good = rw given_so (never_accepted reason.refusal)

  pub refused_call : answer_of plan trip (rooms_in lent) ≡ refused (fault_of reason)
  refused_call = refused_answer_lem plan trip (rooms_in lent) no_good ∙ ap refused given_so

  pub refused_lanes : lent_left plan trip lent ≡ lent
  refused_lanes = refused_lent plan trip lent no_good

-- and one that it accepts
module _ (plan : Plan) (trip : Lanes) (lent : Lent) (rooms : Rooms) (lanes : rooms ≡ rooms_in lent) (given : fault accepted 0 ≡ trip_fault plan trip rooms) where
  number_zero : (trip_fault plan trip (rooms_in lent)).number ≡ accepted
  number_zero = ap (λ (f : Fault). f.number) (sym (given ∙ ap (trip_fault plan trip) lanes))

  pub accepted_call : Accepted plan trip (rooms_in lent)
  accepted_call = passed plan trip (rooms_in lent) number_zero

  good : is_accepted plan trip (rooms_in lent) ≡ true
  good = is_accepted_lem plan trip (rooms_in lent) number_zero

  pub evaluated_call : answer_of plan trip (rooms_in lent) ≡ evaluated plan trip
  evaluated_call = accepted_answer plan trip (rooms_in lent) good

  pub written_lanes : lent_left plan trip lent ≡ lent_written plan trip lent
  written_lanes = accepted_lent plan trip lent good
