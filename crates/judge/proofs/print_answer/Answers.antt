-- `judge::print_answer` meets its contract: what is printed is the text that was written to the buffer. Assumes nothing.
use mathlib.Core.Path.{sym}
use lib.Seq.{length-take-le}
use Rattle.printed.proofs.Texts.{written_inside}
use Rattle.judge.proofs.Whole.{at_front}
use Rattle.judge.proofs.print_answer.Goals as goal

-- the text lies within its buffer
pub slice_bounds-write_whole-end : goal.slice_bounds-write_whole-end
slice_bounds-write_whole-end c =
    let printed = c.write_text-length.ensures.printed in
    rw (printed.0, printed.1) (written_inside _ _)

pub slice_bounds-write_whole-end-2 : goal.slice_bounds-write_whole-end-2
slice_bounds-write_whole-end-2 c = sym (length-take-le _ _ (slice_bounds-write_whole-end c))

pub returns-then-not-write_whole-clause-printed : goal.returns-then-not-write_whole-clause-printed
returns-then-not-write_whole-clause-printed c =
    let printed = c.write_text-length.ensures.printed in
    at_front _ _ _ printed.1 printed.2 c.requires

pub returns-else-not-write_whole-clause-printed : goal.returns-else-not-write_whole-clause-printed
returns-else-not-write_whole-clause-printed c =
    let printed = c.write_text-length.ensures.printed in
    at_front _ _ _ printed.1 printed.2 c.requires
