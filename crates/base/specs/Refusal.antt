-- The numbers of refusal: "given exactly when".
use Rattle.std.specs.Prelude.{ℕ, Result, Ok, Err}
use Rattle.base.specs.declared.refusal.Refusal.{Refusal}
use Rattle.base.specs.declared.refusal.Refusal.TheVariants.{LanesDiffer, TooMany, OutOfRange, NoSecond, PlanOutOfRange, LaneTooShort, CutItem, UnknownKind, MassInput, MassTooLarge, PlanMisplaced, TooFewValues, StateNotReached}
use Rattle.base.specs.declared.refusal.Refused.{Refused}

-- accepted
abbrev pub accepted : ℕ
accepted = 0

-- lanes of one trip differ in length
abbrev pub lanes_differ : ℕ
lanes_differ = 1

-- more than 8,192 seconds or values
abbrev pub too_many_values : ℕ
too_many_values = 2

-- a state or value out of range
abbrev pub out_of_range : ℕ
out_of_range = 3

-- no second in state 1 or 3, or an asked index past the end
abbrev pub no_second : ℕ
no_second = 4

-- plan out of range
abbrev pub plan_out_of_range : ℕ
plan_out_of_range = 5

-- a lane to be written is too short
abbrev pub lane_too_short : ℕ
lane_too_short = 6

-- stream ends inside an item
abbrev pub cut_item : ℕ
cut_item = 7

-- unknown kind
abbrev pub unknown_kind : ℕ
unknown_kind = 8

-- a mass input not finite or out of range
abbrev pub mass_input : ℕ
mass_input = 9

-- the whole-part mass above the second's range
abbrev pub mass_too_large : ℕ
mass_too_large = 10

-- plan absent, late or repeated
abbrev pub plan_misplaced : ℕ
plan_misplaced = 11

-- percentile asked of fewer than 100 values
abbrev pub too_few_values : ℕ
too_few_values = 12

-- sweep state that these kept seconds and this reference never reach
abbrev pub state_not_reached : ℕ
state_not_reached = 13

-- "A refusal returns its number and a place"
pub record Fault : Type 0 where
  pub number : ℕ
  pub place : ℕ

abbrev pub fault : ℕ → ℕ → Fault
fault number place = record { number = number; place = place }

-- the number of a refusal, by its name in the code
abbrev pub number_of : Refusal → ℕ
number_of LanesDiffer = lanes_differ
number_of TooMany = too_many_values
number_of OutOfRange = out_of_range
number_of NoSecond = no_second
number_of PlanOutOfRange = plan_out_of_range
number_of LaneTooShort = lane_too_short
number_of CutItem = cut_item
number_of UnknownKind = unknown_kind
number_of MassInput = mass_input
number_of MassTooLarge = mass_too_large
number_of PlanMisplaced = plan_misplaced
number_of TooFewValues = too_few_values
number_of StateNotReached = state_not_reached

-- a refusal as the code holds it: its number and its place
abbrev pub fault_of : Refused → Fault
fault_of refused = fault (number_of refused.refusal) refused.place

-- what is refused, number 0 and place 0 where nothing is
abbrev pub fault_in : {A : Type 0} → Result A Refused → Fault
fault_in (Ok answer) = fault accepted 0
fault_in (Err refused) = fault_of refused

-- an answer, or what is refused by its number and its place
abbrev pub answer_in : {A : Type 0} → Result A Refused → Result A Fault
answer_in (Ok answer) = Ok answer
answer_in (Err refused) = Err (fault_of refused)

-- the number of a refusal that has no place of its own, 0 where nothing is refused
abbrev pub number_in : {A : Type 0} → Result A Refusal → ℕ
number_in (Ok answer) = accepted
number_in (Err refusal) = number_of refusal
