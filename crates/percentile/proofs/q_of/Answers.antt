-- `percentile::q_of` meets its contract: with at least 100 values both ranks are there, and the second is not below the first.
-- Assumes nothing.
use Prim.Native.Nat.{◌-◌}
use mathlib.Core.Path.{sym}
use lib.ListN.{length}
use native.Mathlib.Omega.{arith}
use Rattle.percentile.proofs.Interpolation.{j_of, gap_small, q_is}
use Rattle.percentile.proofs.q_of.Goals as goal

pub overflow_sub-result : goal.overflow_sub-result
overflow_sub-result c =
    let m = length c.args.ranked.now in
    rw (c.from-low.ensures, c.from-high.ensures) (c.requires.ascending (j_of m - 1) (j_of m) (omega arith) (omega arith))

pub overflow_mul-result-2 : goal.overflow_mul-result-2
overflow_mul-result-2 c =
    omega (arith, gap_small (length c.args.ranked.now) c.from-low.result c.from-high.result (omega arith))

pub overflow_add-result : goal.overflow_add-result
overflow_add-result c =
    omega (arith, gap_small (length c.args.ranked.now) c.from-low.result c.from-high.result (omega arith))

pub returns : goal.returns
returns c =
    rw (c.from-low.ensures, c.from-high.ensures) (sym (q_is c.args.ranked.now c.requires))
