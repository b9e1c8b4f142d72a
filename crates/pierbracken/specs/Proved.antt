-- Demand 1: every public call ends and meets its contract on all inputs: the theorem of each.
use Rattle.second.proofs.Trip.seconds.Statement as seconds_is
use Rattle.second.proofs.Trip.seconds.Met as seconds_met
use Rattle.second.proofs.Trip.agree.Statement as agree_is
use Rattle.second.proofs.Trip.agree.Met as agree_met
use Rattle.second.proofs.LentLanes.room.Statement as room_is
use Rattle.second.proofs.LentLanes.room.Met as room_met
use Rattle.second.proofs.LentLanes.as_trip.Statement as as_trip_is
use Rattle.second.proofs.LentLanes.as_trip.Met as as_trip_met
use Rattle.mass.proofs.co2_mass.Statement as co2_mass_is
use Rattle.mass.proofs.co2_mass.Met as co2_mass_met
use Rattle.mass.proofs.nox_mass.Statement as nox_mass_is
use Rattle.mass.proofs.nox_mass.Met as nox_mass_met
use Rattle.item.proofs.read_item.Statement as read_item_is
use Rattle.item.proofs.read_item.Met as read_item_met
use Rattle.stream.proofs.read_stream.Statement as read_stream_is
use Rattle.stream.proofs.read_stream.Met as read_stream_met
use Rattle.writer.proofs.write_stream.Statement as write_stream_is
use Rattle.writer.proofs.write_stream.Met as write_stream_met
use Rattle.reader.proofs.start.Statement as start_is
use Rattle.reader.proofs.start.Met as start_met
use Rattle.blocks.proofs.feed.Statement as feed_is
use Rattle.blocks.proofs.feed.Met as feed_met
use Rattle.reader.proofs.end.Statement as end_is
use Rattle.reader.proofs.end.Met as end_met
use Rattle.sweep.proofs.sweep.Statement as sweep_is
use Rattle.sweep.proofs.sweep.Met as sweep_met
use Rattle.acceleration.proofs.d_of_second.Statement as d_of_second_is
use Rattle.acceleration.proofs.d_of_second.Met as d_of_second_met
use Rattle.percentile.proofs.percentile.Statement as percentile_is
use Rattle.percentile.proofs.percentile.Met as percentile_met
use Rattle.trip.proofs.evaluate.Statement as evaluate_is
use Rattle.trip.proofs.evaluate.Met as evaluate_met
use Rattle.report.proofs.report.Statement as report_is
use Rattle.report.proofs.report.Met as report_met
use Rattle.report.proofs.report_refusal.Statement as report_refusal_is
use Rattle.report.proofs.report_refusal.Met as report_refusal_met
use Rattle.verdict.proofs.has_reason.Statement as has_reason_is
use Rattle.verdict.proofs.has_reason.Met as has_reason_met
use Rattle.printed.proofs.write_text.Statement as write_text_is
use Rattle.printed.proofs.write_text.Met as write_text_met
use Rattle.capi.proofs.release.pb_meaning.Statement as pb_meaning_is
use Rattle.capi.proofs.release.pb_meaning.Met as pb_meaning_met
use Rattle.capi.proofs.concentration.pb_mass_co2.Statement as pb_mass_co2_is
use Rattle.capi.proofs.concentration.pb_mass_co2.Met as pb_mass_co2_met
use Rattle.capi.proofs.concentration.pb_mass_nox.Statement as pb_mass_nox_is
use Rattle.capi.proofs.concentration.pb_mass_nox.Met as pb_mass_nox_met
use Rattle.capi.proofs.streams.pb_item.Statement as pb_item_is
use Rattle.capi.proofs.streams.pb_item.Met as pb_item_met
use Rattle.capi.proofs.streams.pb_read.Statement as pb_read_is
use Rattle.capi.proofs.streams.pb_read.Met as pb_read_met
use Rattle.capi.proofs.streams.pb_write.Statement as pb_write_is
use Rattle.capi.proofs.streams.pb_write.Met as pb_write_met
use Rattle.capi.proofs.feeding.pb_start.Statement as pb_start_is
use Rattle.capi.proofs.feeding.pb_start.Met as pb_start_met
use Rattle.capi.proofs.feeding.pb_feed.Statement as pb_feed_is
use Rattle.capi.proofs.feeding.pb_feed.Met as pb_feed_met
use Rattle.capi.proofs.feeding.pb_end.Statement as pb_end_is
use Rattle.capi.proofs.feeding.pb_end.Met as pb_end_met
use Rattle.capi.proofs.sweeping.pb_sweep.Statement as pb_sweep_is
use Rattle.capi.proofs.sweeping.pb_sweep.Met as pb_sweep_met
use Rattle.capi.proofs.accelerations.pb_acceleration.Statement as pb_acceleration_is
use Rattle.capi.proofs.accelerations.pb_acceleration.Met as pb_acceleration_met
use Rattle.capi.proofs.accelerations.pb_percentile.Statement as pb_percentile_is
use Rattle.capi.proofs.accelerations.pb_percentile.Met as pb_percentile_met
use Rattle.capi.proofs.trips.pb_evaluate.Statement as pb_evaluate_is
use Rattle.capi.proofs.trips.pb_evaluate.Met as pb_evaluate_met
use Rattle.capi.proofs.masks.pb_has_reason.Statement as pb_has_reason_is
use Rattle.capi.proofs.masks.pb_has_reason.Met as pb_has_reason_met

-- `statement` says of the code of a call that it meets the contract in `src/`, in every model of memory
module _ {M : Type 1} where
  pub co2_mass_lem : co2_mass_is.statement M
  co2_mass_lem = co2_mass_met.met

  pub nox_mass_lem : nox_mass_is.statement M
  nox_mass_lem = nox_mass_met.met

  pub read_item : read_item_is.statement M
  read_item = read_item_met.met

  pub read_stream : read_stream_is.statement M
  read_stream = read_stream_met.met

  pub write_stream : write_stream_is.statement M
  write_stream = write_stream_met.met

  pub start : start_is.statement M
  start = start_met.met

  pub feed : feed_is.statement M
  feed = feed_met.met

  pub end : end_is.statement M
  end = end_met.met

  pub sweep : sweep_is.statement M
  sweep = sweep_met.met

  pub d_of_second : d_of_second_is.statement M
  d_of_second = d_of_second_met.met

  pub percentile : percentile_is.statement M
  percentile = percentile_met.met

  pub evaluate : evaluate_is.statement M
  evaluate = evaluate_met.met

  pub report : report_is.statement M
  report = report_met.met

  pub report_refusal : report_refusal_is.statement M
  report_refusal = report_refusal_met.met

  pub has_reason : has_reason_is.statement M
  has_reason = has_reason_met.met

  pub write_text : write_text_is.statement M
  write_text = write_text_met.met

  -- ---- of a trip's lanes and of lanes that are lent, as a caller in Rust holds them
  pub seconds : seconds_is.statement M
  seconds = seconds_met.met

  pub agree : agree_is.statement M
  agree = agree_met.met

  pub room : room_is.statement M
  room = room_met.met

  pub as_trip : as_trip_is.statement M
  as_trip = as_trip_met.met

  -- ---- of the C interface
  pub pb_meaning : pb_meaning_is.statement M
  pb_meaning = pb_meaning_met.met

  pub pb_mass_co2 : pb_mass_co2_is.statement M
  pb_mass_co2 = pb_mass_co2_met.met

  pub pb_mass_nox : pb_mass_nox_is.statement M
  pb_mass_nox = pb_mass_nox_met.met

  pub pb_item : pb_item_is.statement M
  pb_item = pb_item_met.met

  pub pb_read : pb_read_is.statement M
  pb_read = pb_read_met.met

  pub pb_write : pb_write_is.statement M
  pb_write = pb_write_met.met

  pub pb_start : pb_start_is.statement M
  pb_start = pb_start_met.met

  pub pb_feed : pb_feed_is.statement M
  pb_feed = pb_feed_met.met

  pub pb_end : pb_end_is.statement M
  pb_end = pb_end_met.met

  pub pb_sweep : pb_sweep_is.statement M
  pb_sweep = pb_sweep_met.met

  pub pb_acceleration : pb_acceleration_is.statement M
  pb_acceleration = pb_acceleration_met.met

  pub pb_percentile : pb_percentile_is.statement M
  pb_percentile = pb_percentile_met.met

  pub pb_evaluate : pb_evaluate_is.statement M
  pb_evaluate = pb_evaluate_met.met

  pub pb_has_reason : pb_has_reason_is.statement M
  pb_has_reason = pb_has_reason_met.met
