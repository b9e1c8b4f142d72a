-- `text::Writing::put_named` meets its contract: words and then a number are both, one behind the other. Assumes nothing.
use Rattle.text.specs.Text.{decimal}
use Rattle.text.proofs.Behind.{both_written, fits_next}
use Rattle.text.proofs.Writing.put_named.Goals as goal

pub returns : goal.returns
returns c =
    both_written c.put_words.ensures c.put_number.ensures

pub put_number-requires : goal.put_number-requires
put_number-requires c =
    fits_next (decimal c.args.n) c.requires c.put_words.ensures
