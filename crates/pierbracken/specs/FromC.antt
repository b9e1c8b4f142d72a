-- Demands 1 and 2, said of what is linked: every call of the C interface takes all inputs and answers as the definitions say, the result and each lent lane.
use Rattle.std.specs.Prelude.{ℕ, ◌+◌, refl, List, length}
use package.contract.Lifetimes.{Lfts}
use denote.Triple.Clauses.{AtExit}
use borrow.Fn.Kinds as contract
use Rattle.second.specs.Lanes.{Lanes, lanes_of}
use Rattle.trip.specs.Lent.{Lent, lent_of}
use Rattle.meaning.specs.Meaning.{release_of_meaning}
use Rattle.mass.specs.Mass.{co2_mass, nox_mass}
use Rattle.acceleration.specs.D.{acceleration_of}
use Rattle.percentile.specs.Percentile as percentiles
use Rattle.crossing.specs.Concentration.{mass_across, answer_of}
use Rattle.crossing.specs.Items.{item_across}
use Rattle.crossing.specs.Accelerations.{acceleration_across, percentile_across}
use Rattle.capi.proofs.release.pb_meaning.Reads as pb_meaning_call
use Rattle.capi.proofs.concentration.pb_mass_co2.Reads as pb_mass_co2_call
use Rattle.capi.proofs.concentration.pb_mass_nox.Reads as pb_mass_nox_call
use Rattle.capi.proofs.streams.pb_item.Reads as pb_item_call
use Rattle.capi.proofs.streams.pb_read.Kinds as stream_kinds
use Rattle.capi.proofs.streams.pb_read.Reads as pb_read_call
use Rattle.capi.proofs.streams.pb_write.Kinds as write_kinds
use Rattle.capi.proofs.streams.pb_write.Reads as pb_write_call
use Rattle.capi.proofs.feeding.pb_start.Reads as pb_start_call
use Rattle.capi.proofs.feeding.pb_feed.Kinds as feed_kinds
use Rattle.capi.proofs.feeding.pb_feed.Reads as pb_feed_call
use Rattle.capi.proofs.feeding.pb_end.Reads as pb_end_call
use Rattle.capi.proofs.sweeping.pb_sweep.Reads as pb_sweep_call
use Rattle.capi.proofs.accelerations.pb_acceleration.Kinds as d_kinds
use Rattle.capi.proofs.accelerations.pb_acceleration.Reads as pb_acceleration_call
use Rattle.capi.proofs.accelerations.pb_percentile.Reads as pb_percentile_call
use Rattle.capi.proofs.trips.pb_evaluate.Kinds as trip_kinds
use Rattle.capi.proofs.trips.pb_evaluate.Reads as pb_evaluate_call
use Rattle.capi.proofs.masks.pb_has_reason.Reads as pb_has_reason_call
use Rattle.pierbracken.specs.Calls.{Answers, Gives, ReadView, ReadsStream, WriteView, WritesStream, FeedView, Feeds, TripView, Evaluates, Starts, Ends, Sweeps, TestsReason}

-- C hands in each lane by itself.
-- how many lanes are lent: those of a trip; with the bytes that are read, or written; with the four that an evaluation fills
abbrev pub trip_lanes : ℕ
trip_lanes = 5

abbrev pub stream_lanes : ℕ
stream_lanes = trip_lanes + 1

abbrev pub evaluation_lanes : ℕ
evaluation_lanes = trip_lanes + 4

-- D of a second: the five lanes of a trip, and the index
abbrev pub lanes_before : (κs : Lfts trip_lanes) → contract.Dens κs d_kinds.ps → Lanes
lanes_before κs a = lanes_of a.0.now a.1.0.now a.1.1.0.now a.1.1.1.0.now a.1.1.1.1.0.now

abbrev pub index_behind : (κs : Lfts trip_lanes) → contract.Dens κs d_kinds.ps → ℕ
index_behind κs a = a.1.1.1.1.1.0

-- ---- the stream: its bytes, and the five lanes
abbrev pub lanes_to_fill : (κs : Lfts stream_lanes) → contract.Dens κs stream_kinds.ps → Lanes
lanes_to_fill κs a = lanes_of a.1.0.now a.1.1.0.now a.1.1.1.0.now a.1.1.1.1.0.now a.1.1.1.1.1.0.now

abbrev pub lanes_filled : (κs : Lfts stream_lanes) → AtExit (contract.ended_of stream_lanes stream_kinds.ps stream_kinds.r) κs → Lanes
lanes_filled κs e = lanes_of e.1.0.now e.1.1.0.now e.1.1.1.0.now e.1.1.1.1.0.now e.1.1.1.1.1.0.now

abbrev pub stream_view : ReadView (λ (κs : Lfts stream_lanes). contract.Dens κs stream_kinds.ps) (AtExit (contract.ended_of stream_lanes stream_kinds.ps stream_kinds.r))
stream_view = record { stream = λ κs a. a.0.now; lanes = lanes_to_fill; filled = lanes_filled }

-- ---- the stream that is written: the plan, the five lanes, and the buffer
abbrev pub trip_to_write : (κs : Lfts stream_lanes) → contract.Dens κs write_kinds.ps → Lanes
trip_to_write κs a = lanes_of a.1.0.now a.1.1.0.now a.1.1.1.0.now a.1.1.1.1.0.now a.1.1.1.1.1.0.now

abbrev pub buffer_lent : (κs : Lfts stream_lanes) → contract.Dens κs write_kinds.ps → List ℕ
buffer_lent κs a = a.1.1.1.1.1.1.0.now

abbrev pub buffer_left : (κs : Lfts stream_lanes) → AtExit (contract.ended_of stream_lanes write_kinds.ps write_kinds.r) κs → List ℕ
buffer_left κs e = e.1.1.1.1.1.1.0.now

abbrev pub write_view : WriteView (λ (κs : Lfts stream_lanes). contract.Dens κs write_kinds.ps) (AtExit (contract.ended_of stream_lanes write_kinds.ps write_kinds.r))
write_view = record { plan = λ κs a. a.0; trip = trip_to_write; buffer = buffer_lent; left = buffer_left }

-- a reader, a block, and the five lanes
abbrev pub lanes_to_feed : (κs : Lfts stream_lanes) → contract.Dens κs feed_kinds.ps → Lanes
lanes_to_feed κs a = lanes_of a.1.1.0.now a.1.1.1.0.now a.1.1.1.1.0.now a.1.1.1.1.1.0.now a.1.1.1.1.1.1.0.now

abbrev pub lanes_after_feeding : (κs : Lfts stream_lanes) → AtExit (contract.ended_of stream_lanes feed_kinds.ps feed_kinds.r) κs → Lanes
lanes_after_feeding κs e = lanes_of e.1.1.0.now e.1.1.1.0.now e.1.1.1.1.0.now e.1.1.1.1.1.0.now e.1.1.1.1.1.1.0.now

abbrev pub feed_view : FeedView (λ (κs : Lfts stream_lanes). contract.Dens κs feed_kinds.ps) (AtExit (contract.ended_of stream_lanes feed_kinds.ps feed_kinds.r))
feed_view = record { reader = λ κs a. a.0; block = λ κs a. a.1.0.now; lanes = lanes_to_feed; left = lanes_after_feeding }

-- ---- the trip: the plan, the five lanes, and the four lent lanes
abbrev pub trip_in : (κs : Lfts evaluation_lanes) → contract.Dens κs trip_kinds.ps → Lanes
trip_in κs a = lanes_of a.1.0.now a.1.1.0.now a.1.1.1.0.now a.1.1.1.1.0.now a.1.1.1.1.1.0.now

abbrev pub lent_in : (κs : Lfts evaluation_lanes) → contract.Dens κs trip_kinds.ps → Lent
lent_in κs a = let b = a.1.1.1.1.1.1 in lent_of b.0.now b.1.0.now b.1.1.0.now b.1.1.1.0.now

abbrev pub lent_at_exit : (κs : Lfts evaluation_lanes) → AtExit (contract.ended_of evaluation_lanes trip_kinds.ps trip_kinds.r) κs → Lent
lent_at_exit κs e = let b = e.1.1.1.1.1.1 in lent_of b.0.now b.1.0.now b.1.1.0.now b.1.1.1.0.now

abbrev pub trip_view : TripView (λ (κs : Lfts evaluation_lanes). contract.Dens κs trip_kinds.ps) (AtExit (contract.ended_of evaluation_lanes trip_kinds.ps trip_kinds.r))
trip_view = record { plan = λ κs a. a.0; trip = trip_in; lent = lent_in; left = lent_at_exit }

-- ---- the calls that answer as those of the library do, in the same words
pub pb_read : ReadsStream pb_read_call.Pre pb_read_call.Post stream_view
pb_read = record { takes_all = λ κs a. tt; means = λ κs a x e p. p }

pub pb_write : WritesStream pb_write_call.Pre pb_write_call.Post write_view
pb_write = record { takes_all = λ κs a. tt; means = λ κs a x e p. p }

pub pb_start : Starts pb_start_call.Pre pb_start_call.Post
pb_start = record { takes_all = λ κs a. tt; means = λ κs a x e p. (p, refl) }

pub pb_feed : Feeds pb_feed_call.Pre pb_feed_call.Post feed_view
pb_feed = record { takes_all = λ κs a. tt; means = λ κs a x e p. p }

pub pb_end : Ends pb_end_call.Pre pb_end_call.Post
pb_end = record { takes_all = λ κs a. tt; means = λ κs a x e p. (p, refl) }

pub pb_sweep : Sweeps pb_sweep_call.Pre pb_sweep_call.Post
pb_sweep = record { takes_all = λ κs a. tt; means = λ κs a x e p. p }

pub pb_evaluate : Evaluates pb_evaluate_call.Pre pb_evaluate_call.Post trip_view
pb_evaluate = record { takes_all = λ κs a. tt; means = λ κs a x e p. p }

pub pb_has_reason : TestsReason pb_has_reason_call.Pre pb_has_reason_call.Post
pb_has_reason = record { takes_all = λ κs a. tt; means = λ κs a x e p. (p, refl) }

-- ---- those whose answer crosses as a struct, and the release
pub pb_meaning : Gives pb_meaning_call.Pre pb_meaning_call.Post (λ κs a. release_of_meaning)
pb_meaning = record { takes_all = λ κs a. tt; means = λ κs a x e p. (p, refl) }

pub pb_mass_co2 : Gives pb_mass_co2_call.Pre pb_mass_co2_call.Post (λ κs a. answer_of (mass_across co2_mass a.0 a.1.0 a.1.1.0))
pb_mass_co2 = record { takes_all = λ κs a. tt; means = λ κs a x e p. (p, refl) }

pub pb_mass_nox : Gives pb_mass_nox_call.Pre pb_mass_nox_call.Post (λ κs a. answer_of (mass_across nox_mass a.0 a.1.0 a.1.1.0))
pb_mass_nox = record { takes_all = λ κs a. tt; means = λ κs a x e p. (p, refl) }

pub pb_item : Gives pb_item_call.Pre pb_item_call.Post (λ κs a. item_across a.0.now)
pb_item = record { takes_all = λ κs a. tt; means = λ κs a x e p. (p, refl) }

pub pb_acceleration : Gives pb_acceleration_call.Pre pb_acceleration_call.Post (λ κs a. acceleration_across (acceleration_of (lanes_before κs a) (index_behind κs a)))
pb_acceleration = record { takes_all = λ κs a. tt; means = λ κs a x e p. (p, refl) }

pub pb_percentile : Answers (List ℕ) pb_percentile_call.Pre pb_percentile_call.Post (λ κs a. percentile_across (percentiles.answer_of a.0.now (length a.1.0.now))) (λ κs e. e.1.0.now) (λ κs a. percentiles.lane_of a.0.now a.1.0.now)
pb_percentile = record { takes_all = λ κs a. tt; means = λ κs a x e p. p }
