-- `text::Writing::put_line` meets its contract: two named numbers and the line end, one behind the other. Assumes nothing.
use mathlib.Core.List.{◌++◌}
use Rattle.text.specs.Text.{bytes, decimal}
use Rattle.text.proofs.Behind.{both_written, fits_first, fits_next}
use Rattle.text.proofs.Writing.put_line.Goals as goal

pub returns : goal.returns
returns c =
    both_written (both_written c.put_named.ensures c.put_named-2.ensures) c.put_words.ensures

pub put_named-requires-2 : goal.put_named-requires-2
put_named-requires-2 c =
    let a = c.args in
    fits_next (a.second.now ++ decimal a.b) (fits_first a.self.now (a.first.now ++ decimal a.a ++ (a.second.now ++ decimal a.b)) (bytes "\n") c.requires) c.put_named.ensures

pub put_words-requires : goal.put_words-requires
put_words-requires c =
    fits_next (bytes "\n") c.requires (both_written c.put_named.ensures c.put_named-2.ensures)
