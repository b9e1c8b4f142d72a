-- Demands 1 and 2: every public call takes all inputs, its contract says what the definition says, and so determines the entire result and each lent lane.
use Rattle.std.specs.Prelude.{ℕ, ◌+◌, ◌≡◌, refl, List, length}
use Rattle.std.proofs.Common.{sym, ◌∙◌}
use package.contract.Lifetimes.{Lfts}
use denote.Triple.Clauses.{AtExit}
use borrow.Fn.Kinds as contract
use Rattle.base.specs.declared.Plan.{Plan}
use Rattle.base.specs.Refusal.{answer_in}
use Rattle.second.specs.Lanes.{Lanes, room_in, seconds_in, lanes_agree, lanes_in, lanes_lent}
use Rattle.second.specs.Same.{SameLent}
use Rattle.second.proofs.Trip.seconds.Reads as seconds_call
use Rattle.second.proofs.Trip.agree.Reads as agree_call
use Rattle.second.proofs.LentLanes.room.Reads as room_call
use Rattle.second.proofs.LentLanes.as_trip.Reads as as_trip_call
use Rattle.mass.specs.Mass.{co2_mass, nox_mass}
use Rattle.mass.proofs.co2_mass.Reads as co2_mass_call
use Rattle.mass.proofs.nox_mass.Reads as nox_mass_call
use Rattle.item.specs.Item.{item_of}
use Rattle.item.proofs.read_item.Reads as read_item_call
use Rattle.stream.specs.declared.ReadAnswer.{ReadAnswer}
use Rattle.stream.specs.Reading.{read_of, stream_left}
use Rattle.stream.proofs.read_stream.Kinds as stream_kinds
use Rattle.stream.proofs.read_stream.Reads as read_stream_call
use Rattle.writer.specs.declared.WriteAnswer.{WriteAnswer}
use Rattle.writer.specs.Writing.{write_of, buffer_after}
use Rattle.writer.proofs.write_stream.Kinds as write_kinds
use Rattle.writer.proofs.write_stream.Reads as write_stream_call
use Rattle.reader.specs.declared.Fed.{Fed}
use Rattle.reader.specs.declared.Reader.{Reader}
use Rattle.reader.specs.Reader.{started}
use Rattle.reader.specs.Blocks.{fed_of, lanes_fed, end_of}
use Rattle.reader.proofs.start.Kinds as start_kinds
use Rattle.reader.proofs.start.Reads as start_call
use Rattle.blocks.proofs.feed.Kinds as feed_kinds
use Rattle.blocks.proofs.feed.Reads as feed_call
use Rattle.reader.proofs.end.Kinds as end_kinds
use Rattle.reader.proofs.end.Reads as end_call
use Rattle.sweep.specs.Sweep.{sweep_answer, sweep_ends}
use Rattle.sweep.proofs.sweep.Kinds as sweep_kinds
use Rattle.sweep.proofs.sweep.Reads as sweep_call
use Rattle.acceleration.specs.D.{acceleration_of}
use Rattle.acceleration.proofs.d_of_second.Kinds as d_kinds
use Rattle.acceleration.proofs.d_of_second.Reads as d_of_second_call
use Rattle.percentile.specs.Percentile as percentiles
use Rattle.percentile.proofs.percentile.Reads as percentile_call
use Rattle.trip.specs.declared.Evaluated.{Evaluated}
use Rattle.trip.specs.Trip.{answer_of}
use Rattle.trip.specs.Lent.{Lent, rooms_in, lent_left, lent_in}
use Rattle.trip.specs.Same.{SameWork}
use Rattle.trip.proofs.evaluate.Kinds as trip_kinds
use Rattle.trip.proofs.evaluate.Reads as evaluate_call
use Rattle.verdict.specs.Verdict.{has_any}
use Rattle.verdict.proofs.has_reason.Kinds as reason_kinds
use Rattle.verdict.proofs.has_reason.Reads as has_reason_call
use Rattle.report.specs.Lines.{judged_text, refusal_text, length_written, buffer_written}
use Rattle.report.proofs.report.Reads as report_call
use Rattle.report.proofs.report_refusal.Reads as report_refusal_call
use Rattle.printed.specs.Printed.{printed_text, lent_after}
use Rattle.printed.proofs.write_text.Kinds as print_kinds
use Rattle.printed.proofs.write_text.Reads as write_text_call

-- `Pre` and `Post` of a call are its contract, read by the toolchain from `src/`: what it asks of the inputs, and which result
-- and which parameters at exit it allows for them. A parameter is named by its place in the parameter list: `.0` the first,
-- `.1.0` the second, `.1.1.0` the third; `.now` is what a lane holds. `κs` stands for how long each lane is lent.

-- a call that asks nothing of its inputs, of which every allowed result is `answer` and every lane that it leaves is `left`
pub record Answers
    (Left : Type 0) {L : Type 0} {In Out Exit : L → Type 0}
    (asks : (κs : L) → In κs → Type 0)
    (allows : (κs : L) → In κs → Out κs → Exit κs → Type 0)
    (answer : (κs : L) → In κs → Out κs)
    (at_exit : (κs : L) → Exit κs → Left)
    (left : (κs : L) → In κs → Left) : Type 0 where
  pub takes_all : (κs : L) (inputs : In κs) → asks κs inputs
  pub means : (κs : L) (inputs : In κs) (x : Out κs) (e : Exit κs) → allows κs inputs x e → (x ≡ answer κs inputs) × (at_exit κs e ≡ left κs inputs)

-- so any two results that it allows for the same inputs coincide, with every lent lane
pub determined :
    {Left L : Type 0} {In Out Exit : L → Type 0}
    {asks : (κs : L) → In κs → Type 0}
    {allows : (κs : L) → In κs → Out κs → Exit κs → Type 0}
    {answer : (κs : L) → In κs → Out κs}
    {at_exit : (κs : L) → Exit κs → Left}
    {left : (κs : L) → In κs → Left} →
    Answers Left asks allows answer at_exit left →
    (κs : L) (inputs : In κs) (x y : Out κs) (e f : Exit κs) →
    allows κs inputs x e → allows κs inputs y f → (x ≡ y) × (at_exit κs e ≡ at_exit κs f)
determined call κs inputs x y e f p q =
    let one = call.means κs inputs x e p in
    let other = call.means κs inputs y f q in
    (one.0 ∙ sym other.0, one.1 ∙ sym other.1)

-- a call whose result names a refusal as the code does: every allowed result is `answer` as `seen` has it, by number and place
pub record AnswersAs
    (Left : Type 0) {L : Type 0} {In Out Seen Exit : L → Type 0}
    (asks : (κs : L) → In κs → Type 0)
    (allows : (κs : L) → In κs → Out κs → Exit κs → Type 0)
    (seen : (κs : L) → Out κs → Seen κs)
    (answer : (κs : L) → In κs → Seen κs)
    (at_exit : (κs : L) → Exit κs → Left)
    (left : (κs : L) → In κs → Left) : Type 0 where
  pub takes_all : (κs : L) (inputs : In κs) → asks κs inputs
  pub means : (κs : L) (inputs : In κs) (x : Out κs) (e : Exit κs) → allows κs inputs x e → (seen κs x ≡ answer κs inputs) × (at_exit κs e ≡ left κs inputs)

-- so any two results that it allows for the same inputs coincide too, where no two are seen alike
pub determined_as :
    {Left L : Type 0} {In Out Seen Exit : L → Type 0}
    {asks : (κs : L) → In κs → Type 0}
    {allows : (κs : L) → In κs → Out κs → Exit κs → Type 0}
    {seen : (κs : L) → Out κs → Seen κs}
    {answer : (κs : L) → In κs → Seen κs}
    {at_exit : (κs : L) → Exit κs → Left}
    {left : (κs : L) → In κs → Left} →
    AnswersAs Left asks allows seen answer at_exit left →
    ((κs : L) (x y : Out κs) → seen κs x ≡ seen κs y → x ≡ y) →
    (κs : L) (inputs : In κs) (x y : Out κs) (e f : Exit κs) →
    allows κs inputs x e → allows κs inputs y f → (x ≡ y) × (at_exit κs e ≡ at_exit κs f)
determined_as call told_apart κs inputs x y e f p q =
    let one = call.means κs inputs x e p in
    let other = call.means κs inputs y f q in
    (told_apart κs x y (one.0 ∙ sym other.0), one.1 ∙ sym other.1)

-- a call of which any two results that it allows for the same inputs coincide, with every lent lane
pub record Determines
    (Left : Type 0) {L : Type 0} {In Out Exit : L → Type 0}
    (allows : (κs : L) → In κs → Out κs → Exit κs → Type 0)
    (at_exit : (κs : L) → Exit κs → Left) : Type 0 where
  pub same : (κs : L) (inputs : In κs) (x y : Out κs) (e f : Exit κs) → allows κs inputs x e → allows κs inputs y f → (x ≡ y) × (at_exit κs e ≡ at_exit κs f)

-- a call that is lent a struct of lanes: it still holds the same lanes, whatever was written into them
pub record KeepsLent
    {L : Type 0} {In Out Exit : L → Type 0}
    (allows : (κs : L) → In κs → Out κs → Exit κs → Type 0)
    (same_lanes : (κs : L) → In κs → Exit κs → Type 0) : Type 0 where
  pub same : (κs : L) (inputs : In κs) (x : Out κs) (e : Exit κs) → allows κs inputs x e → same_lanes κs inputs e

-- ---- the calls that write into no lane
abbrev pub Gives : {L : Type 0} {In Out Exit : L → Type 0} → ((κs : L) → In κs → Type 0) → ((κs : L) → In κs → Out κs → Exit κs → Type 0) → ((κs : L) → In κs → Out κs) → Type 0
Gives asks allows answer = Answers (Unit {0}) asks allows answer (λ κs e. tt) (λ κs a. tt)

pub co2_mass_lem : Gives co2_mass_call.Pre co2_mass_call.Post (λ κs a. co2_mass a.0 a.1.0)
co2_mass_lem = record { takes_all = λ κs a. tt; means = λ κs a x e p. (p, refl) }

pub nox_mass_lem : Gives nox_mass_call.Pre nox_mass_call.Post (λ κs a. nox_mass a.0 a.1.0)
nox_mass_lem = record { takes_all = λ κs a. tt; means = λ κs a x e p. (p, refl) }

pub read_item : Gives read_item_call.Pre read_item_call.Post (λ κs a. item_of a.0.now)
read_item = record { takes_all = λ κs a. tt; means = λ κs a x e p. (p, refl) }

-- how many parts of a call are lent: a trip's lanes together are a struct of slices, lent and made of what is lent; beside them the
-- bytes that are read, or written; the workspace that an evaluation fills; a buffer
abbrev pub trip_parts : ℕ
trip_parts = 2

abbrev pub stream_parts : ℕ
stream_parts = trip_parts + 1

abbrev pub evaluation_parts : ℕ
evaluation_parts = trip_parts + 2

abbrev pub print_parts : ℕ
print_parts = evaluation_parts + 1

-- a trip's lanes as they are handed in, and lanes that are lent: their seconds, whether they agree, their room, and as a trip
pub seconds : Gives seconds_call.Pre seconds_call.Post (λ κs a. seconds_in (lanes_in a.0.now))
seconds = record { takes_all = λ κs a. tt; means = λ κs a x e p. (p, refl) }

pub agree : Gives agree_call.Pre agree_call.Post (λ κs a. lanes_agree (lanes_in a.0.now))
agree = record { takes_all = λ κs a. tt; means = λ κs a x e p. (p, refl) }

pub room : Gives room_call.Pre room_call.Post (λ κs a. room_in (lanes_lent a.0.now))
room = record { takes_all = λ κs a. tt; means = λ κs a x e p. (p, refl) }

pub as_trip : AnswersAs (Unit {0}) as_trip_call.Pre as_trip_call.Post (λ κs x. lanes_in x) (λ κs a. lanes_lent a.0.now) (λ κs e. tt) (λ κs a. tt)
as_trip = record { takes_all = λ κs a. tt; means = λ κs a x e p. (p, refl) }

-- D of a second: a trip, and the index
abbrev pub lanes_before : (κs : Lfts trip_parts) → contract.Dens κs d_kinds.ps → Lanes
lanes_before κs a = lanes_in a.0.now

abbrev pub index_behind : (κs : Lfts trip_parts) → contract.Dens κs d_kinds.ps → ℕ
index_behind κs a = a.1.0

pub d_of_second : AnswersAs (Unit {0}) d_of_second_call.Pre d_of_second_call.Post (λ κs x. answer_in x) (λ κs a. acceleration_of (lanes_before κs a) (index_behind κs a)) (λ κs e. tt) (λ κs a. tt)
d_of_second = record { takes_all = λ κs a. tt; means = λ κs a x e p. (p.0, refl) }

-- ---- the stream: its bytes, and the lanes that are lent
abbrev pub lanes_to_fill : (κs : Lfts stream_parts) → contract.Dens κs stream_kinds.ps → Lanes
lanes_to_fill κs a = lanes_lent a.1.0.now

abbrev pub lanes_filled : (κs : Lfts stream_parts) → AtExit (contract.ended_of stream_parts stream_kinds.ps stream_kinds.r) κs → Lanes
lanes_filled κs e = lanes_lent e.1.0.now

-- what a call that reads a stream is given and leaves, however its lanes are handed in: so what is said of the call of the library
-- and of C's is said once
pub record ReadView {L : Type 0} (In Exit : L → Type 0) : Type 0 where
  pub stream : (κs : L) → In κs → List ℕ
  pub lanes : (κs : L) → In κs → Lanes
  pub filled : (κs : L) → Exit κs → Lanes

-- a call that reads a whole stream
abbrev pub ReadsStream : {L : Type 0} {In Exit : L → Type 0} → ((κs : L) → In κs → Type 0) → ((κs : L) → In κs → ReadAnswer → Exit κs → Type 0) → ReadView In Exit → Type 0
ReadsStream asks allows view =
    Answers Lanes asks allows
    (λ κs a. read_of (room_in (view.lanes κs a)) (view.stream κs a))
    view.filled
    (λ κs a. stream_left (view.stream κs a) (view.lanes κs a))

abbrev pub stream_view : ReadView (λ (κs : Lfts stream_parts). contract.Dens κs stream_kinds.ps) (AtExit (contract.ended_of stream_parts stream_kinds.ps stream_kinds.r))
stream_view = record { stream = λ κs a. a.0.now; lanes = lanes_to_fill; filled = lanes_filled }

pub read_stream : ReadsStream read_stream_call.Pre read_stream_call.Post stream_view
read_stream = record { takes_all = λ κs a. tt; means = λ κs a x e p. (p.0, p.1.0) }

-- the lanes are still those that were lent
pub read_stream_keeps : KeepsLent read_stream_call.Post (λ κs a e. SameLent a.1.0.now e.1.0.now)
read_stream_keeps = record { same = λ κs a x e p. p.1.1 }

-- ---- the stream that is written: the plan, the trip, and the buffer
abbrev pub trip_to_write : (κs : Lfts stream_parts) → contract.Dens κs write_kinds.ps → Lanes
trip_to_write κs a = lanes_in a.1.0.now

abbrev pub buffer_lent : (κs : Lfts stream_parts) → contract.Dens κs write_kinds.ps → List ℕ
buffer_lent κs a = a.1.1.0.now

abbrev pub buffer_left : (κs : Lfts stream_parts) → AtExit (contract.ended_of stream_parts write_kinds.ps write_kinds.r) κs → List ℕ
buffer_left κs e = e.1.1.0.now

pub record WriteView {L : Type 0} (In Exit : L → Type 0) : Type 0 where
  pub plan : (κs : L) → In κs → Plan
  pub trip : (κs : L) → In κs → Lanes
  pub buffer : (κs : L) → In κs → List ℕ
  pub left : (κs : L) → Exit κs → List ℕ

-- a call that writes a stream
abbrev pub WritesStream : {L : Type 0} {In Exit : L → Type 0} → ((κs : L) → In κs → Type 0) → ((κs : L) → In κs → WriteAnswer → Exit κs → Type 0) → WriteView In Exit → Type 0
WritesStream asks allows view =
    Answers (List ℕ) asks allows
    (λ κs a. write_of (view.plan κs a) (view.trip κs a) (length (view.buffer κs a)))
    view.left
    (λ κs a. buffer_after (view.plan κs a) (view.trip κs a) (view.buffer κs a))

abbrev pub write_view : WriteView (λ (κs : Lfts stream_parts). contract.Dens κs write_kinds.ps) (AtExit (contract.ended_of stream_parts write_kinds.ps write_kinds.r))
write_view = record { plan = λ κs a. a.0; trip = trip_to_write; buffer = buffer_lent; left = buffer_left }

pub write_stream : WritesStream write_stream_call.Pre write_stream_call.Post write_view
write_stream = record { takes_all = λ κs a. tt; means = λ κs a x e p. p }

-- ---- the stream in blocks
abbrev pub Starts : contract.In 0 start_kinds.ps → contract.Out 0 start_kinds.ps start_kinds.r → Type 0
Starts asks allows = Gives asks allows (λ κs a. started)

pub start : Starts start_call.Pre start_call.Post
start = record { takes_all = λ κs a. tt; means = λ κs a x e p. (p, refl) }

-- a reader, a block, and the lanes that are lent
abbrev pub lanes_to_feed : (κs : Lfts stream_parts) → contract.Dens κs feed_kinds.ps → Lanes
lanes_to_feed κs a = lanes_lent a.1.1.0.now

abbrev pub lanes_after_feeding : (κs : Lfts stream_parts) → AtExit (contract.ended_of stream_parts feed_kinds.ps feed_kinds.r) κs → Lanes
lanes_after_feeding κs e = lanes_lent e.1.1.0.now

pub record FeedView {L : Type 0} (In Exit : L → Type 0) : Type 0 where
  pub reader : (κs : L) → In κs → Reader
  pub block : (κs : L) → In κs → List ℕ
  pub lanes : (κs : L) → In κs → Lanes
  pub left : (κs : L) → Exit κs → Lanes

-- a call that feeds the block to the reader and the lanes
abbrev pub Feeds : {L : Type 0} {In Exit : L → Type 0} → ((κs : L) → In κs → Type 0) → ((κs : L) → In κs → Fed → Exit κs → Type 0) → FeedView In Exit → Type 0
Feeds asks allows view =
    Answers Lanes asks allows
    (λ κs a. fed_of (room_in (view.lanes κs a)) (view.reader κs a) (view.block κs a))
    view.left
    (λ κs a. lanes_fed (view.reader κs a) (view.block κs a) (view.lanes κs a))

abbrev pub feed_view : FeedView (λ (κs : Lfts stream_parts). contract.Dens κs feed_kinds.ps) (AtExit (contract.ended_of stream_parts feed_kinds.ps feed_kinds.r))
feed_view = record { reader = λ κs a. a.0; block = λ κs a. a.1.0.now; lanes = lanes_to_feed; left = lanes_after_feeding }

pub feed : Feeds feed_call.Pre feed_call.Post feed_view
feed = record { takes_all = λ κs a. tt; means = λ κs a x e p. (p.0, p.1.0) }

pub feed_keeps : KeepsLent feed_call.Post (λ κs a e. SameLent a.1.1.0.now e.1.1.0.now)
feed_keeps = record { same = λ κs a x e p. p.1.1 }

abbrev pub Ends : contract.In 0 end_kinds.ps → contract.Out 0 end_kinds.ps end_kinds.r → Type 0
Ends asks allows = Gives asks allows (λ κs a. end_of a.0)

pub end : Ends end_call.Pre end_call.Post
end = record { takes_all = λ κs a. tt; means = λ κs a x e p. (p, refl) }

-- ---- the sweep: reference, masses, the lane of ends, state, budget
abbrev pub Sweeps : contract.In 2 sweep_kinds.ps → contract.Out 2 sweep_kinds.ps sweep_kinds.r → Type 0
Sweeps asks allows =
    Answers (List ℕ) asks allows
    (λ κs a. sweep_answer a.0 a.1.0.now (length a.1.1.0.now) a.1.1.1.0 a.1.1.1.1.0)
    (λ κs e. e.1.1.0.now)
    (λ κs a. sweep_ends a.0 a.1.0.now a.1.1.0.now a.1.1.1.0 a.1.1.1.1.0)

pub sweep : Sweeps sweep_call.Pre sweep_call.Post
sweep = record { takes_all = λ κs a. tt; means = λ κs a x e p. p }

-- ---- the percentile: products, and the ranking lane
pub percentile : AnswersAs (List ℕ) percentile_call.Pre percentile_call.Post (λ κs x. answer_in x) (λ κs a. percentiles.answer_of a.0.now (length a.1.0.now)) (λ κs e. e.1.0.now) (λ κs a. percentiles.lane_of a.0.now a.1.0.now)
percentile = record { takes_all = λ κs a. tt; means = λ κs a x e p. p }

-- ---- the trip: the plan, the trip, and the workspace
abbrev pub trip_in : (κs : Lfts evaluation_parts) → contract.Dens κs trip_kinds.ps → Lanes
trip_in κs a = lanes_in a.1.0.now

abbrev pub work_lent : (κs : Lfts evaluation_parts) → contract.Dens κs trip_kinds.ps → Lent
work_lent κs a = lent_in a.1.1.0.now

abbrev pub work_left : (κs : Lfts evaluation_parts) → AtExit (contract.ended_of evaluation_parts trip_kinds.ps trip_kinds.r) κs → Lent
work_left κs e = lent_in e.1.1.0.now

pub record TripView {L : Type 0} (In Exit : L → Type 0) : Type 0 where
  pub plan : (κs : L) → In κs → Plan
  pub trip : (κs : L) → In κs → Lanes
  pub lent : (κs : L) → In κs → Lent
  pub left : (κs : L) → Exit κs → Lent

-- a call that evaluates a trip
abbrev pub Evaluates : {L : Type 0} {In Exit : L → Type 0} → ((κs : L) → In κs → Type 0) → ((κs : L) → In κs → Evaluated → Exit κs → Type 0) → TripView In Exit → Type 0
Evaluates asks allows view =
    Answers Lent asks allows
    (λ κs a. answer_of (view.plan κs a) (view.trip κs a) (rooms_in (view.lent κs a)))
    view.left
    (λ κs a. lent_left (view.plan κs a) (view.trip κs a) (view.lent κs a))

abbrev pub trip_view : TripView (λ (κs : Lfts evaluation_parts). contract.Dens κs trip_kinds.ps) (AtExit (contract.ended_of evaluation_parts trip_kinds.ps trip_kinds.r))
trip_view = record { plan = λ κs a. a.0; trip = trip_in; lent = work_lent; left = work_left }

pub evaluate : Evaluates evaluate_call.Pre evaluate_call.Post trip_view
evaluate = record { takes_all = λ κs a. tt; means = λ κs a x e p. (p.0, p.1.0) }

pub evaluate_keeps : KeepsLent evaluate_call.Post (λ κs a e. SameWork a.1.1.0.now e.1.1.0.now)
evaluate_keeps = record { same = λ κs a x e p. p.1.1 }

-- ---- the reasons of a verdict: a verdict and a mask
abbrev pub TestsReason : contract.In 0 reason_kinds.ps → contract.Out 0 reason_kinds.ps reason_kinds.r → Type 0
TestsReason asks allows = Gives asks allows (λ κs a. has_any a.0 a.1.0)

pub has_reason : TestsReason has_reason_call.Pre has_reason_call.Post
has_reason = record { takes_all = λ κs a. tt; means = λ κs a x e p. (p, refl) }

-- ---- the printed lines, written into a buffer
pub report : Answers (List ℕ) report_call.Pre report_call.Post (λ κs a. length_written (judged_text a.0) a.1.0.now) (λ κs e. e.1.0.now) (λ κs a. buffer_written (judged_text a.0) a.1.0.now)
report = record { takes_all = λ κs a. tt; means = λ κs a x e p. p }

pub report_refusal : Answers (List ℕ) report_refusal_call.Pre report_refusal_call.Post (λ κs a. length_written (refusal_text a.0 a.1.0) a.1.1.0.now) (λ κs e. e.1.1.0.now) (λ κs a. buffer_written (refusal_text a.0 a.1.0) a.1.1.0.now)
report_refusal = record { takes_all = λ κs a. tt; means = λ κs a x e p. p }

-- what is printed for a stream that was read: the reading's answer, the lanes, the workspace, and the buffer
abbrev pub text_printed : (κs : Lfts print_parts) → contract.Dens κs print_kinds.ps → List ℕ
text_printed κs a = printed_text a.0 (lanes_in a.1.0.now) (rooms_in (lent_in a.1.1.0.now))

abbrev pub print_buffer : (κs : Lfts print_parts) → contract.Dens κs print_kinds.ps → List ℕ
print_buffer κs a = a.1.1.1.0.now

pub write_text : Answers (Lent × List ℕ) write_text_call.Pre write_text_call.Post
    (λ κs a. length_written (text_printed κs a) (print_buffer κs a))
    (λ κs e. (lent_in e.1.1.0.now, e.1.1.1.0.now))
    (λ κs a. (lent_after a.0 (lanes_in a.1.0.now) (lent_in a.1.1.0.now), buffer_written (text_printed κs a) (print_buffer κs a)))
write_text = record { takes_all = λ κs a. tt; means = λ κs a x e p. (p.0.0, λ i. (p.1.0 i, p.0.1 i)) }

pub write_text_keeps : KeepsLent write_text_call.Post (λ κs a e. SameWork a.1.1.0.now e.1.1.0.now)
write_text_keeps = record { same = λ κs a x e p. p.1.1 }
