-- `reader::made::carry_made` meets its contract: its tests are those of the definition. Assumes nothing.
use mathlib.Core.Path.{refl}
use Rattle.reader.specs.Inside.{carry_made}
use Rattle.reader.proofs.made.carry_made.Goals as goal

pub returns : goal.returns
unfolding carry_made
returns c =
    rw (c.all_zero.ensures, c.size_of.ensures) refl
