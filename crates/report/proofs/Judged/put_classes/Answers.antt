-- `report::Judged::put_classes` meets its contract: the three class lines, one behind the other. Assumes nothing.
use Rattle.report.specs.Lines.{class_line, class_lines}
use Rattle.text.proofs.Behind.{both_written, fits_one, fits_two, fits_three}
use Rattle.report.proofs.Judged.put_classes.Goals as goal

pub returns : goal.returns
unfolding class_lines
returns c =
    both_written (both_written c.put_line.ensures c.put_line-2.ensures) c.put_line-3.ensures

pub put_line-requires : goal.put_line-requires
unfolding class_lines
put_line-requires c =
    let t = c.args.self in
    fits_one c.args.writing.now (class_line "urban " t.urban) (class_line "rural " t.rural) (class_line "motorway " t.motorway) c.requires

pub put_line-requires-2 : goal.put_line-requires-2
unfolding class_lines
put_line-requires-2 c =
    let t = c.args.self in
    fits_two c.args.writing.now (class_line "urban " t.urban) (class_line "rural " t.rural) (class_line "motorway " t.motorway) c.requires c.put_line.ensures

pub put_line-requires-3 : goal.put_line-requires-3
unfolding class_lines
put_line-requires-3 c =
    let t = c.args.self in
    fits_three c.args.writing.now (class_line "urban " t.urban) (class_line "rural " t.rural) (class_line "motorway " t.motorway) c.requires c.put_line.ensures c.put_line-2.ensures
