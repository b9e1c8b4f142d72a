-- The library's whole product, low word first.
use Rattle.std.proofs.Common.{arith}
use Rattle.wide.specs.Inside.{value}
use Rattle.wide.proofs.product.Goals as goal

pub returns : goal.returns
unfolding value
returns c =
    omega (arith, c.carrying_mul-lo.ensures)
