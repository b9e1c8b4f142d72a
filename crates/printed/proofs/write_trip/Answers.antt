-- `printed::write_trip` meets its contract: the one line of a refusal, or the six lines. Assumes nothing.
use mathlib.Core.Path.{◌≡◌}
use native.Mathlib.Omega.{arith}
use Rattle.base.specs.Refusal.{accepted}
use Rattle.report.proofs.Lengths.{Words, judged-longest, refusal_longest}
use Rattle.printed.proofs.Texts.{refused_trip, judged_trip}
use Rattle.printed.proofs.write_trip.Goals as goal

pub returns-then-trip-ne-ACCEPTED : goal.returns-then-trip-ne-ACCEPTED
returns-then-trip-ne-ACCEPTED c =
    let trip = c.args.trip in
    let wrote = c.report_refusal.ensures in
    let is_bad : trip.refusal ≡ accepted → ⊥ = λ (zero : trip.refusal ≡ accepted). omega arith in
    rw (refused_trip trip is_bad) (wrote.0, wrote.1, refusal_longest trip.refusal trip.place (omega arith) (omega arith))

pub returns : goal.returns
returns c =
    let words : Words c.lines_of.result = record {
      seconds = omega arith;
      missing = omega arith;
      kept = omega arith;
      windows = omega arith;
      moves = omega arith;
      urban = record { windows = omega arith; inside = omega arith };
      rural = record { windows = omega arith; inside = omega arith };
      motorway = record { windows = omega arith; inside = omega arith };
    } in
    let trip = c.args.trip in
    let lines = c.lines_of in
    let wrote = c.report.ensures in
    let is_good : trip.refusal ≡ accepted = omega arith in
    rw (judged_trip trip is_good, ← lines.ensures) (wrote.0, wrote.1, judged-longest lines.result words)
