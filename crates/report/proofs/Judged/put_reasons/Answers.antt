-- `report::Judged::put_reasons` meets its contract: the words, four hex digits and the line end, one behind the other. Assumes nothing.
use Rattle.text.specs.Text.{bytes, hex}
use Rattle.report.specs.Lines.{reasons_line}
use Rattle.text.proofs.Behind.{both_written, fits_one, fits_two, fits_three}
use Rattle.report.proofs.Judged.put_reasons.Goals as goal

pub returns : goal.returns
unfolding reasons_line
returns c =
    both_written (both_written c.put_words.ensures c.put_hex.ensures) c.put_words-2.ensures

pub put_words-requires : goal.put_words-requires
unfolding reasons_line
put_words-requires c =
    let t = c.args.self in
    fits_one c.args.writing.now (bytes "reasons ") (hex t.reasons) (bytes "\n") c.requires

pub put_hex-requires : goal.put_hex-requires
unfolding reasons_line
put_hex-requires c =
    let t = c.args.self in
    fits_two c.args.writing.now (bytes "reasons ") (hex t.reasons) (bytes "\n") c.requires c.put_words.ensures

pub put_words-requires-2 : goal.put_words-requires-2
unfolding reasons_line
put_words-requires-2 c =
    let t = c.args.self in
    fits_three c.args.writing.now (bytes "reasons ") (hex t.reasons) (bytes "\n") c.requires c.put_words.ensures c.put_hex.ensures
