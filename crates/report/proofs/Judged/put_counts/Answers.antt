-- `report::Judged::put_counts` meets its contract: the seconds, the rest of line 1, and line 2, one behind the other. Assumes nothing.
use Rattle.report.specs.Lines.{named, line, count_lines}
use Rattle.text.proofs.Behind.{both_written, fits_one, fits_two, fits_three}
use Rattle.report.proofs.Judged.put_counts.Goals as goal

pub returns : goal.returns
unfolding count_lines
returns c =
    both_written (both_written c.put_named.ensures c.put_line.ensures) c.put_line-2.ensures

pub put_named-requires : goal.put_named-requires
unfolding count_lines
put_named-requires c =
    let t = c.args.self in
    fits_one c.args.writing.now (named "seconds " t.seconds) (line " missing " t.missing " kept " t.kept) (line "windows " t.windows " moves " t.moves) c.requires

pub put_line-requires : goal.put_line-requires
unfolding count_lines
put_line-requires c =
    let t = c.args.self in
    fits_two c.args.writing.now (named "seconds " t.seconds) (line " missing " t.missing " kept " t.kept) (line "windows " t.windows " moves " t.moves) c.requires c.put_named.ensures

pub put_line-requires-2 : goal.put_line-requires-2
unfolding count_lines
put_line-requires-2 c =
    let t = c.args.self in
    fits_three c.args.writing.now (named "seconds " t.seconds) (line " missing " t.missing " kept " t.kept) (line "windows " t.windows " moves " t.moves) c.requires c.put_named.ensures c.put_line.ensures
