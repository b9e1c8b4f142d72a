-- `lively::too_dull` meets its contract: its test is that of the definition. Assumes nothing.
use Prim.Native.Nat.{◌*◌}
use mathlib.Core.Path.{refl}
use native.Mathlib.Omega.{arith}
use borrow.Author.Tests.{le-leb, lt-leb}
use Rattle.lively.specs.Lively.{too_dull}
use Rattle.lively.proofs.too_dull.Goals as goal

pub returns-then-s-n : goal.returns-then-s-n
unfolding too_dull
returns-then-s-n c =
    rw (le-leb c.args.s (9_405 * c.args.n) (omega arith)) c.below_curve.ensures

pub returns : goal.returns
unfolding too_dull
returns c =
    rw (lt-leb c.args.s (9_405 * c.args.n) (omega arith)) refl
