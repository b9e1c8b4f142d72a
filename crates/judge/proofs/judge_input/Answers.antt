-- `judge::judge_input` meets its contract: what was read block by block is judged as one stream. Assumes nothing.
use mathlib.Core.Path.{◌∙◌, ap}
use Rattle.base.specs.Words.{with_front}
use Rattle.second.specs.Lanes.{Lanes}
use Rattle.trip.specs.declared.Rooms.{Rooms}
use Rattle.trip.specs.Lent.{rooms_in, lent_in}
use Rattle.printed.specs.Printed.{printed_text}
use Rattle.judge.proofs.Whole.{judged_as_one}
use Rattle.judge.proofs.judge_input.Goals as goal

pub returns-clause-judged : goal.returns-clause-judged
returns-clause-judged c could_read =
    let rooms : Rooms = rooms_in (lent_in c.args.work.now) in
    let printed = c.print_answer.ensures.printed ∙ ap (λ (lanes : Lanes). with_front (printed_text c.end-read.result lanes rooms) c.args.text.now) c.as_trip.ensures in
    judged_as_one _ c.in-Ok.input.reader _ rooms c.end-read.result _ _ c.requires.has_places c.in-Ok.ensures.read c.end-read.ensures printed
