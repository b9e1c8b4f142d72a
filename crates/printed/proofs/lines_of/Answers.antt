-- `printed::lines_of` meets its contract: it is the definition's record. Assumes nothing.
use mathlib.Core.Path.{refl}
use Rattle.printed.specs.Printed.{lines_of}
use Rattle.printed.proofs.lines_of.Goals as goal

pub returns : goal.returns
unfolding lines_of
returns c =
    rw (c.class_line-3.ensures, c.class_line-2.ensures, c.class_line.ensures) refl
