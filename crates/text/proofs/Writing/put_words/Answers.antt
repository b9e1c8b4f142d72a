-- `text::Writing::put_words` meets its contract: words that are copied are stored. Assumes nothing.
use mathlib.Core.Path.{refl}
use native.Mathlib.Omega.{arith}
use Rattle.text.proofs.Behind.{wrote_behind}
use Rattle.text.proofs.Writing.put_words.Goals as goal

pub returns : goal.returns
returns c =
    record { wrote = wrote_behind c.args.words.now c.args.self.now.buffer.now c.args.self.now.at _ (omega arith) c.requires c.copy_from_slice.ensures.after; same_buffer = refl }
