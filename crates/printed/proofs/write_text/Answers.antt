-- `printed::write_text` meets its contract: the stream's refusal, or else what the trip's answer gives. Assumes nothing.
use mathlib.Core.Path.{◌≡◌, sym, ◌∙◌, ap}
use native.Mathlib.Omega.{arith}
use Rattle.base.specs.Refusal.{accepted}
use Rattle.stream.specs.declared.ReadAnswer.{ReadAnswer}
use Rattle.second.specs.Lanes.{Lanes, lanes_in}
use Rattle.trip.specs.Trip.{answer_of}
use Rattle.trip.specs.Lent.{Lent, rooms_in, lent_left, lent_in}
use Rattle.report.proofs.Lengths.{refusal_longest}
use Rattle.printed.specs.Printed.{trip_text}
use Rattle.printed.proofs.Texts.{refused_text, refused_lent, read_text, read_lent}
use Rattle.printed.proofs.write_text.Goals as goal

pub returns-then-read-ne-ACCEPTED-clause-printed : goal.returns-then-read-ne-ACCEPTED-clause-printed
returns-then-read-ne-ACCEPTED-clause-printed c =
    let read : ReadAnswer = c.args.read in
    let is_bad : read.refusal ≡ accepted → ⊥ = λ (zero : read.refusal ≡ accepted). omega arith in
    let wrote = c.report_refusal.ensures in
    let text = refused_text read (lanes_in c.args.lanes.now) is_bad (rooms_in (lent_in c.args.work.now)) in
    (rw text wrote.0, rw text wrote.1, rw text (refusal_longest read.refusal read.place (omega arith) (omega arith)))

pub returns-then-read-ne-ACCEPTED-clause-left : goal.returns-then-read-ne-ACCEPTED-clause-left
returns-then-read-ne-ACCEPTED-clause-left c =
    let read : ReadAnswer = c.args.read in
    let is_bad : read.refusal ≡ accepted → ⊥ = λ (zero : read.refusal ≡ accepted). omega arith in
    sym (refused_lent read (lanes_in c.args.lanes.now) is_bad (lent_in c.args.work.now))

pub returns-clause-printed : goal.returns-clause-printed
returns-clause-printed c =
    let read : ReadAnswer = c.args.read in
    let lent : Lent = lent_in c.args.work.now in
    let is_good : read.refusal ≡ accepted = omega arith in
    let wrote = c.write_trip.ensures in
    let text =
    read_text read (lanes_in c.args.lanes.now) is_good (rooms_in lent)
    ∙ ap (λ (trip : Lanes). trip_text (answer_of read.plan trip (rooms_in lent))) (sym c.first_seconds.ensures)
    ∙ ap trip_text (sym c.evaluate-trip.ensures.answer)
    in
    (rw text wrote.0, rw text wrote.1, rw text wrote.2)

pub returns-clause-left : goal.returns-clause-left
returns-clause-left c =
    let read : ReadAnswer = c.args.read in
    let lent : Lent = lent_in c.args.work.now in
    let is_good : read.refusal ≡ accepted = omega arith in
    c.evaluate-trip.ensures.left
    ∙ ap (λ (trip : Lanes). lent_left read.plan trip lent) c.first_seconds.ensures
    ∙ sym (read_lent read (lanes_in c.args.lanes.now) is_good lent)
