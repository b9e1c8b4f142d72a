-- `lively::too_lively` meets its contract: its test is that of the definition. Assumes nothing.
use Prim.Native.Nat.{◌*◌}
use native.Mathlib.Omega.{arith}
use borrow.Author.Tests.{le-leb, lt-leb}
use Rattle.lively.specs.Lively.{too_lively}
use Rattle.lively.proofs.too_lively.Goals as goal

pub returns-then-s-n : goal.returns-then-s-n
unfolding too_lively
returns-then-s-n c =
    rw (le-leb c.args.s (7_460 * c.args.n) (omega arith)) c.above_line.ensures

pub returns : goal.returns
unfolding too_lively
returns c =
    rw (lt-leb c.args.s (7_460 * c.args.n) (omega arith)) c.above_line-2.ensures
