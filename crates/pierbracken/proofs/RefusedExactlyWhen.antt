-- Demand 1, of the calls: whatever a contract of the library or of the C interface allows, its number of refusal is given exactly when its condition holds. The words stand in `specs/RefusedExactlyWhen`.
use Rattle.std.specs.Prelude.{length}
use Rattle.base.specs.Refusal.{fault, answer_in}
use Rattle.base.specs.Limits.{co2_most, nox_most}
use Rattle.mass.specs.Mass.{mg_in_a_gram, µg_in_a_gram, co2_mass, nox_mass}
use Rattle.mass.specs.Outcomes as mass_outcomes
use Rattle.item.specs.Item.{refusal_of}
use Rattle.item.specs.Outcomes as item_outcomes
use Rattle.acceleration.specs.D as d
use Rattle.acceleration.specs.Outcomes as d_outcomes
use Rattle.percentile.specs.Percentile as percentiles
use Rattle.percentile.specs.Outcomes as percentile_outcomes
use Rattle.report.specs.Lines.{judged_text, refusal_text}
use Rattle.report.proofs.Fitting as fitting
use Rattle.report.proofs.Theorems as texts
use Rattle.printed.proofs.Texts as printed
use Rattle.crossing.specs.Items.{front_across}
use Rattle.crossing.specs.Outcomes as crossing_outcomes
use Rattle.crossing.proofs.Theorems as crossing
use Rattle.mass.proofs.co2_mass.Reads as co2_mass_call
use Rattle.mass.proofs.nox_mass.Reads as nox_mass_call
use Rattle.item.proofs.read_item.Reads as read_item_call
use Rattle.stream.proofs.read_stream.Reads as read_stream_call
use Rattle.sweep.proofs.sweep.Reads as sweep_call
use Rattle.acceleration.proofs.d_of_second.Reads as d_of_second_call
use Rattle.percentile.proofs.percentile.Reads as percentile_call
use Rattle.trip.proofs.evaluate.Reads as evaluate_call
use Rattle.report.proofs.report.Reads as report_call
use Rattle.report.proofs.report_refusal.Reads as report_refusal_call
use Rattle.printed.proofs.write_text.Reads as write_text_call
use Rattle.capi.proofs.concentration.pb_mass_co2.Reads as pb_mass_co2_call
use Rattle.capi.proofs.concentration.pb_mass_nox.Reads as pb_mass_nox_call
use Rattle.capi.proofs.streams.pb_item.Reads as pb_item_call
use Rattle.capi.proofs.streams.pb_read.Reads as pb_read_call
use Rattle.capi.proofs.sweeping.pb_sweep.Reads as pb_sweep_call
use Rattle.capi.proofs.accelerations.pb_acceleration.Reads as pb_acceleration_call
use Rattle.capi.proofs.accelerations.pb_percentile.Reads as pb_percentile_call
use Rattle.capi.proofs.trips.pb_evaluate.Reads as pb_evaluate_call
use Rattle.pierbracken.specs.Calls as calls
use Rattle.pierbracken.specs.FromC as from_c
use Rattle.pierbracken.specs.RefusedExactlyWhen.{RefusedAs, StreamRefused, SweepRefused, TextRefused, TripRefused, co2_mass_lem, d_of_second, nox_mass_lem, of_call, of_call_as, one_item, ranking, sweeping, through, whole_stream, whole_trip}

-- the mass of a second, in the library a reading, in C a kind and a value
pub co2_mass_refused : RefusedAs co2_mass_call.Post (λ κs x. x) (λ κs a. mass_outcomes.Outcome mg_in_a_gram co2_most a.0 a.1.0)
co2_mass_refused = of_call calls.co2_mass_lem (λ κs a. co2_mass_lem a.0 a.1.0)

pub nox_mass_refused : RefusedAs nox_mass_call.Post (λ κs x. x) (λ κs a. mass_outcomes.Outcome µg_in_a_gram nox_most a.0 a.1.0)
nox_mass_refused = of_call calls.nox_mass_lem (λ κs a. nox_mass_lem a.0 a.1.0)

pub pb_mass_co2_refused : RefusedAs pb_mass_co2_call.Post (λ κs x. x.refusal) (λ κs a. crossing_outcomes.Outcome mg_in_a_gram co2_most a.0 a.1.0 a.1.1.0)
unfolding co2_mass
pb_mass_co2_refused = of_call from_c.pb_mass_co2 (λ κs a. crossing.mass_exactly mg_in_a_gram co2_most a.0 a.1.0 a.1.1.0)

pub pb_mass_nox_refused : RefusedAs pb_mass_nox_call.Post (λ κs x. x.refusal) (λ κs a. crossing_outcomes.Outcome µg_in_a_gram nox_most a.0 a.1.0 a.1.1.0)
unfolding nox_mass
pb_mass_nox_refused = of_call from_c.pb_mass_nox (λ κs a. crossing.mass_exactly µg_in_a_gram nox_most a.0 a.1.0 a.1.1.0)

-- one item
pub item_refused : RefusedAs read_item_call.Post (λ κs x. refusal_of x) (λ κs a. item_outcomes.Outcome a.0.now)
item_refused = of_call calls.read_item (λ κs a. one_item a.0.now)

pub pb_item_refused : RefusedAs pb_item_call.Post (λ κs x. x.refusal) (λ κs a. item_outcomes.Outcome a.0.now)
unfolding front_across
pb_item_refused = of_call from_c.pb_item (λ κs a. one_item a.0.now)

-- a whole stream
pub stream_refused : StreamRefused read_stream_call.Post calls.stream_view
stream_refused = of_call calls.read_stream (λ κs a. whole_stream _ a.0.now)

pub pb_read_refused : StreamRefused pb_read_call.Post from_c.stream_view
pb_read_refused = of_call from_c.pb_read (λ κs a. whole_stream _ a.0.now)

-- the sweep
pub sweep_refused : SweepRefused sweep_call.Post
sweep_refused = of_call calls.sweep (λ κs a. sweeping a.0 a.1.0.now (length a.1.1.0.now) a.1.1.1.0 a.1.1.1.1.0)

pub pb_sweep_refused : SweepRefused pb_sweep_call.Post
pb_sweep_refused = of_call from_c.pb_sweep (λ κs a. sweeping a.0 a.1.0.now (length a.1.1.0.now) a.1.1.1.0 a.1.1.1.1.0)

-- D of one second
pub d_refused : RefusedAs d_of_second_call.Post (λ κs x. d.fault_in (answer_in x)) (λ κs a. d_outcomes.Outcome (calls.lanes_before κs a) (calls.index_behind κs a))
d_refused = of_call_as calls.d_of_second (λ κs found. d.fault_in found) (λ κs a. d_of_second (calls.lanes_before κs a) (calls.index_behind κs a))

pub pb_acceleration_refused : RefusedAs pb_acceleration_call.Post (λ κs x. fault x.refusal x.place) (λ κs a. d_outcomes.Outcome (from_c.lanes_before κs a) (from_c.index_behind κs a))
pb_acceleration_refused = of_call from_c.pb_acceleration (λ κs a. through (crossing.acceleration_fault _) (d_of_second (from_c.lanes_before κs a) (from_c.index_behind κs a)))

-- the percentile
pub percentile_refused : RefusedAs percentile_call.Post (λ κs x. percentiles.fault_in (answer_in x)) (λ κs a. percentile_outcomes.Outcome a.0.now (length a.1.0.now))
percentile_refused = of_call_as calls.percentile (λ κs found. percentiles.fault_in found) (λ κs a. ranking a.0.now (length a.1.0.now))

pub pb_percentile_refused : RefusedAs pb_percentile_call.Post (λ κs x. fault x.refusal x.place) (λ κs a. percentile_outcomes.Outcome a.0.now (length a.1.0.now))
pb_percentile_refused = of_call from_c.pb_percentile (λ κs a. through (crossing.percentile_fault _) (ranking a.0.now (length a.1.0.now)))

-- a trip
pub trip_refused : TripRefused evaluate_call.Post calls.trip_view
trip_refused = of_call calls.evaluate (λ κs a. whole_trip a.0 _ _)

pub pb_evaluate_refused : TripRefused pb_evaluate_call.Post from_c.trip_view
pb_evaluate_refused = of_call from_c.pb_evaluate (λ κs a. whole_trip a.0 _ _)

-- ---- a text is answered by 0 exactly when the buffer is too short for it
pub report_refused : TextRefused report_call.Post (λ κs a. judged_text a.0) (λ κs a. a.1.0.now)
report_refused κs a x e p = rw p.0 (fitting.zero_exactly (judged_text a.0) a.1.0.now (texts.judged_some a.0))

pub report_refusal_refused : TextRefused report_refusal_call.Post (λ κs a. refusal_text a.0 a.1.0) (λ κs a. a.1.1.0.now)
report_refusal_refused κs a x e p = rw p.0 (fitting.zero_exactly (refusal_text a.0 a.1.0) a.1.1.0.now (texts.refusal_some a.0 a.1.0))

pub write_text_refused : TextRefused write_text_call.Post calls.text_printed calls.print_buffer
write_text_refused κs a x e p = rw p.0.0 (fitting.zero_exactly _ _ (printed.text_some a.0 _ _))
