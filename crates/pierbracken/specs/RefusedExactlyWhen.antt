-- Demand 1: every public call refuses bad input by the paper's numbers, in the paper's order: each number exactly when its condition holds and none before it does. The calls themselves have their theorems in `proofs/RefusedExactlyWhen`, in the words of this file; those of the writer stand in `Writing`.
use Rattle.std.specs.Prelude.{ℕ, ℤ, ◌<◌, ◌≡◌, false, List, Option, Result, ◌↔◌, length}
use Rattle.std.proofs.Common.{sym, ◌∙◌}
use borrow.Fn.Kinds as contract
use Rattle.base.specs.Refusal.{Fault, fault}
use Rattle.base.specs.declared.Plan.{Plan}
use Rattle.base.specs.Limits.{co2_most, nox_most}
use Rattle.base.specs.declared.refusal.Refusal.{Refusal}
use Rattle.second.specs.Lanes.{Lanes, room_in}
use Rattle.mass.specs.declared.Reading.{Reading}
use Rattle.mass.specs.declared.Setting.{Setting}
use Rattle.mass.specs.Mass.{mg_in_a_gram, µg_in_a_gram, co2_mass, nox_mass}
use Rattle.mass.specs.Outcomes as mass_outcomes
use Rattle.mass.proofs.Theorems as mass
use Rattle.item.specs.Item.{Front, item_of, refusal_of, length_of}
use Rattle.item.specs.Outcomes as item_outcomes
use Rattle.item.proofs.Refused as item
use Rattle.stream.specs.declared.ReadAnswer.{ReadAnswer}
use Rattle.stream.specs.Reading.{read_of}
use Rattle.stream.specs.Outcomes as stream_outcomes
use Rattle.stream.proofs.Refusals as stream
use Rattle.sweep.specs.declared.SweepState.{SweepState}
use Rattle.sweep.specs.Sweep.{sweep_answer, refused_answer, place_of}
use Rattle.sweep.specs.Outcomes as sweep_outcomes
use Rattle.sweep.proofs.Theorems as sweep
use Rattle.sweep.proofs.sweep.Kinds as sweep_kinds
use Rattle.acceleration.specs.D as d
use Rattle.acceleration.specs.Outcomes as d_outcomes
use Rattle.acceleration.proofs.Theorems as acceleration
use Rattle.percentile.specs.Percentile as percentiles
use Rattle.percentile.specs.Outcomes as percentile_outcomes
use Rattle.percentile.proofs.Theorems as percentile
use Rattle.trip.specs.declared.Evaluated.{Evaluated}
use Rattle.trip.specs.declared.Rooms.{Rooms}
use Rattle.trip.specs.Lent.{rooms_in}
use Rattle.trip.specs.Trip.{answer_of, refused}
use Rattle.trip.specs.Outcomes as trip_outcomes
use Rattle.trip.proofs.Refused as trip
use Rattle.trip.proofs.Theorems as trips
use Rattle.crossing.specs.Concentration as concentration
use Rattle.crossing.specs.Items.{front_across, item_answer, no_contents}
use Rattle.crossing.specs.Accelerations.{acceleration_across, percentile_across}
use Rattle.crossing.proofs.Theorems as crossing
use Rattle.pierbracken.specs.Calls.{Answers, AnswersAs, ReadView, TripView}

-- `Outcome` and `Given`, in the `specs/Outcomes` of each crate, have a constructor for each number of refusal, in the order of the
-- call, with the conditions of that number; the last one is that of an accepted call. A fault is a number and a place.

-- ---- the definitions
-- what is said of one of two equal answers is said of the other
pub through {ℓ} : {A : Type ℓ} {P : A → Type 0} {a b : A} → a ≡ b → ((x : A) → (b ≡ x) ↔ P x) → (x : A) → (a ≡ x) ↔ P x
through e says x = (λ p. (says x).0 (sym e ∙ p), λ h. e ∙ (says x).1 h)

-- "Mass: 9, then 10"
pub co2_mass_lem : (reading : Reading) (setting : Setting) (answer : Result ℕ Refusal) → (co2_mass reading setting ≡ answer) ↔ mass_outcomes.Outcome mg_in_a_gram co2_most reading setting answer
unfolding co2_mass
co2_mass_lem reading setting answer = mass.refused_exactly mg_in_a_gram co2_most reading setting answer

pub nox_mass_lem : (reading : Reading) (setting : Setting) (answer : Result ℕ Refusal) → (nox_mass reading setting ≡ answer) ↔ mass_outcomes.Outcome µg_in_a_gram nox_most reading setting answer
unfolding nox_mass
nox_mass_lem reading setting answer = mass.refused_exactly µg_in_a_gram nox_most reading setting answer

-- "one item .. (8, 7, then 5 or 3; an empty slice is 7)"
pub one_item : (bytes : List ℕ) (number : ℕ) → (refusal_of (item_of bytes) ≡ number) ↔ item_outcomes.Outcome bytes number
one_item bytes number = item.refused_exactly bytes number

-- "Stream: the first bad item counts, within it 8, 7, 11, 5 or 3, 2, 6; an empty stream is 11 at 0"
pub whole_stream : (room : ℕ) (bytes : List ℕ) (answer : ReadAnswer) → (read_of room bytes ≡ answer) ↔ stream_outcomes.Outcome room bytes answer
whole_stream room bytes answer = stream.refused_exactly room bytes answer

-- "Sweep: 5 (its reference), 2, 6, 3, 13", and the place of a refusal
pub sweeping : (reference : ℕ) (co2 : List ℕ) (room : ℕ) (state : SweepState) (budget number : ℕ) → ((sweep_answer reference co2 room state budget).refusal ≡ number) ↔ sweep_outcomes.Outcome reference co2 room state number
sweeping reference co2 room state budget number = sweep.answered_exactly reference co2 room state budget number

pub sweeping_place : (reference : ℕ) (co2 : List ℕ) (room : ℕ) (state : SweepState) (budget : ℕ) → (sweep_answer reference co2 room state budget).place ≡ place_of co2 (sweep_answer reference co2 room state budget).refusal
sweeping_place reference co2 room state budget =
    let same = sweep.answer_refusal reference co2 room state budget in
    rw same.0 same.1

-- D of one second: "(1, 2, 3, 4)"
pub d_of_second : (lanes : Lanes) (i : ℕ) (given : Fault) → (d.fault_in (d.acceleration_of lanes i) ≡ given) ↔ d_outcomes.Outcome lanes i given
d_of_second lanes i = through (acceleration.answer_fault lanes i) (acceleration.refused_exactly lanes i)

-- "Percentile: 2, 12, 6, 3"
pub ranking : (values : List ℕ) (places : ℕ) (given : Fault) → (percentiles.fault_in (percentiles.answer_of values places) ≡ given) ↔ percentile_outcomes.Outcome values places given
ranking values places = through (percentile.answer_fault values places) (percentile.refused_exactly values places)

-- "Trip: 5, 1, 2, 6, 3, 4"
pub whole_trip : (plan : Plan) (lanes : Lanes) (rooms : Rooms) (given : Fault) → (fault (answer_of plan lanes rooms).refusal (answer_of plan lanes rooms).place ≡ given) ↔ trip_outcomes.Given plan lanes rooms given
whole_trip plan lanes rooms = through (trip.answer_fault plan lanes rooms) (trip.refused_exactly plan lanes rooms)

-- ---- the calls
-- every result that a contract allows, seen by `look`, is y exactly when `outcome` holds of y
pub record RefusedAs
    {Y L : Type 0} {In Out Exit : L → Type 0}
    (allows : (κs : L) → In κs → Out κs → Exit κs → Type 0)
    (look : (κs : L) → Out κs → Y)
    (outcome : (κs : L) → In κs → Y → Type 0) : Type 0 where
  pub exactly : (κs : L) (inputs : In κs) (x : Out κs) (e : Exit κs) → allows κs inputs x e → (y : Y) → (look κs x ≡ y) ↔ outcome κs inputs y

-- a law of the definition holds of the call
pub of_call :
    {Y Left L : Type 0} {In Out Exit : L → Type 0}
    {asks : (κs : L) → In κs → Type 0}
    {allows : (κs : L) → In κs → Out κs → Exit κs → Type 0}
    {answer : (κs : L) → In κs → Out κs}
    {at_exit : (κs : L) → Exit κs → Left}
    {left : (κs : L) → In κs → Left} →
    Answers Left asks allows answer at_exit left →
    {look : (κs : L) → Out κs → Y} {outcome : (κs : L) → In κs → Y → Type 0} →
    ((κs : L) (inputs : In κs) (y : Y) → (look κs (answer κs inputs) ≡ y) ↔ outcome κs inputs y) → RefusedAs allows look outcome
of_call call {look = look} law =
    record { exactly = λ κs inputs x e p. through (λ i. look κs ((call.means κs inputs x e p).0 i)) (law κs inputs) }

-- and of a call whose refusals are seen by number and place
pub of_call_as :
    {Y Left L : Type 0} {In Out Seen Exit : L → Type 0}
    {asks : (κs : L) → In κs → Type 0}
    {allows : (κs : L) → In κs → Out κs → Exit κs → Type 0}
    {seen : (κs : L) → Out κs → Seen κs}
    {answer : (κs : L) → In κs → Seen κs}
    {at_exit : (κs : L) → Exit κs → Left}
    {left : (κs : L) → In κs → Left} →
    AnswersAs Left asks allows seen answer at_exit left →
    (look : (κs : L) → Seen κs → Y) {outcome : (κs : L) → In κs → Y → Type 0} →
    ((κs : L) (inputs : In κs) (y : Y) → (look κs (answer κs inputs) ≡ y) ↔ outcome κs inputs y) → RefusedAs allows (λ κs x. look κs (seen κs x)) outcome
of_call_as call look law =
    record { exactly = λ κs inputs x e p. through (λ i. look κs ((call.means κs inputs x e p).0 i)) (law κs inputs) }

-- a whole stream
abbrev pub StreamRefused : {L : Type 0} {In Exit : L → Type 0} → ((κs : L) → In κs → ReadAnswer → Exit κs → Type 0) → ReadView In Exit → Type 0
StreamRefused allows view =
    RefusedAs allows (λ κs x. x) (λ κs a. stream_outcomes.Outcome (room_in (view.lanes κs a)) (view.stream κs a))

-- the sweep
abbrev pub SweepRefused : contract.Out 2 sweep_kinds.ps sweep_kinds.r → Type 0
SweepRefused allows =
    RefusedAs allows (λ κs x. x.refusal) (λ κs a. sweep_outcomes.Outcome a.0 a.1.0.now (length a.1.1.0.now) a.1.1.1.0)

-- a trip
abbrev pub TripRefused : {L : Type 0} {In Exit : L → Type 0} → ((κs : L) → In κs → Evaluated → Exit κs → Type 0) → TripView In Exit → Type 0
TripRefused allows view =
    RefusedAs allows (λ κs x. fault x.refusal x.place) (λ κs a. trip_outcomes.Given (view.plan κs a) (view.trip κs a) (rooms_in (view.lent κs a)))

-- a text is answered by 0 exactly when the buffer is too short for it
abbrev pub TextRefused : {L : Type 0} {In Exit : L → Type 0} → ((κs : L) → In κs → ℕ → Exit κs → Type 0) → ((κs : L) → In κs → List ℕ) → ((κs : L) → In κs → List ℕ) → Type 0
TextRefused {L} {In} {Exit} allows text buffer =
    (κs : L) (inputs : In κs) (x : ℕ) (e : Exit κs) → allows κs inputs x e → (x ≡ 0) ↔ (length (buffer κs inputs) < length (text κs inputs))

-- ---- "A refusal returns its number and a place .., with all other results zero": the stream's `Outcome` says so of its own, and the
-- answers by cases of the mass, of D and of the percentile have nothing beside a refusal
pub no_length : (front : Front) → (refusal_of front ≡ 0 → ⊥) → length_of front ≡ 0
no_length = item.refused_no_length

pub sweep_zeros :
    (reference : ℕ) (co2 : List ℕ) (room : ℕ) (state : SweepState) (budget : ℕ) →
    ((sweep_answer reference co2 room state budget).refusal ≡ 0 → ⊥) →
    sweep_answer reference co2 room state budget ≡ refused_answer co2 (sweep_answer reference co2 room state budget).refusal
sweep_zeros = sweep.refused_zeros

pub trip_zeros :
    (plan : Plan) (lanes : Lanes) (rooms : Rooms) → ((answer_of plan lanes rooms).refusal ≡ 0 → ⊥) →
    answer_of plan lanes rooms ≡ refused (fault (answer_of plan lanes rooms).refusal (answer_of plan lanes rooms).place)
trip_zeros = trips.refused_zeros

-- of the structs that cross to C
pub pb_mass_zeros :
    (answer : Result ℕ Refusal) → ((concentration.answer_of answer).refusal ≡ 0 → ⊥) →
    concentration.answer_of answer ≡ record { refusal = (concentration.answer_of answer).refusal; mass = 0; place = 0 }
pb_mass_zeros = crossing.mass_zeros

pub pb_item_zeros : (byte : ℕ) (front : Front) → (refusal_of front ≡ 0 → ⊥) → front_across byte front ≡ item_answer (refusal_of front) 0 no_contents 0 0
pb_item_zeros = crossing.item_zeros

pub pb_acceleration_zeros :
    (answer : Result (Option ℤ) Fault) → ((d.fault_in answer).number ≡ 0 → ⊥) →
    acceleration_across answer ≡ record { refusal = (d.fault_in answer).number; has_d = false; rise = 0; fall = 0; place = (d.fault_in answer).place }
pb_acceleration_zeros = crossing.acceleration_zeros

pub pb_percentile_zeros :
    (answer : Result ℕ Fault) → ((percentiles.fault_in answer).number ≡ 0 → ⊥) →
    percentile_across answer ≡ record { refusal = (percentiles.fault_in answer).number; q = 0; place = (percentiles.fault_in answer).place }
pb_percentile_zeros = crossing.percentile_zeros
