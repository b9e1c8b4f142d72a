-- `base::altitude_in_range` meets its contract: a signed number is read as it is. Assumes nothing.
use mathlib.Core.Path.{sym}
use borrow.Author.Rules.{rules}
use mir.Facts.{to_z-of_z}
use mir.Syntax.{w32}
use Rattle.base.proofs.Altitude.{in_range_between}
use Rattle.base.proofs.altitude_in_range.Goals as goal

pub returns : goal.returns
returns c = rw (to_z-of_z {w = w32} {z = c.args.altitude} (search rules)) (sym (in_range_between c.args.altitude))
