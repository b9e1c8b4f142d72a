-- `reader::made::settled_made` meets its contract: its tests are those of the definition. Assumes nothing.
use mathlib.Core.Path.{refl}
use Rattle.reader.specs.Inside.{settled_made}
use Rattle.reader.proofs.made.settled_made.Goals as goal

pub returns : goal.returns
unfolding settled_made
returns c =
    rw (c.number_made.ensures, c.all_zero.ensures) refl
