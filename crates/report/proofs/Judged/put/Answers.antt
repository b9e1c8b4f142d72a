-- `report::Judged::put` meets its contract: the lines of counts, of classes and of reasons, one behind the other. Assumes nothing.
use Rattle.report.specs.Lines.{count_lines, class_lines, reasons_line, judged_text}
use Rattle.text.proofs.Behind.{both_written, fits_one, fits_two, fits_three}
use Rattle.report.proofs.Judged.put.Goals as goal

pub returns : goal.returns
unfolding judged_text
returns c =
    both_written (both_written c.put_counts.ensures c.put_classes.ensures) c.put_reasons.ensures

pub put_counts-requires : goal.put_counts-requires
unfolding judged_text
put_counts-requires c =
    let t = c.args.self in
    fits_one c.args.writing.now (count_lines t) (class_lines t) (reasons_line t.reasons) c.requires

pub put_classes-requires : goal.put_classes-requires
unfolding judged_text
put_classes-requires c =
    let t = c.args.self in
    fits_two c.args.writing.now (count_lines t) (class_lines t) (reasons_line t.reasons) c.requires c.put_counts.ensures

pub put_reasons-requires : goal.put_reasons-requires
unfolding judged_text
put_reasons-requires c =
    let t = c.args.self in
    fits_three c.args.writing.now (count_lines t) (class_lines t) (reasons_line t.reasons) c.requires c.put_counts.ensures c.put_classes.ensures
