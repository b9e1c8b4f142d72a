-- `text::digit_count` meets its contract: the power of ten below a number has a digit less; 0 has as many as 1. Assumes nothing.
use mathlib.Core.Path.{◌≡◌}
use Prim.Native.Nat.{suc}
use lib.ListN.{length}
use native.Mathlib.Omega.{arith}
use Rattle.text.specs.Text.{decimal}
use Rattle.text.proofs.Decimal.{length_power, length_least}
use Rattle.text.proofs.digit_count.Goals as goal

pub returns : goal.returns
returns c =
    let power = c.ilog10.ensures in
    let many : length (decimal c.max.result) ≡ suc c.ilog10.result = length_power c.ilog10.result c.max.result power.power_le power.next_power_gt in
    let same : length (decimal c.max.result) ≡ length (decimal c.args.n) = rw c.max.ensures (length_least c.args.n) in
    omega (arith, many, same, power.bound)
