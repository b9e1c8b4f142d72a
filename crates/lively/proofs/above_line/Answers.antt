-- `lively::above_line` meets its contract: a word times half a word leaves the sum room, and the products are those of the definition.
-- Assumes nothing.
use Prim.Native.Nat.{◌-◌, ◌^◌}
use native.Mathlib.Omega.{arith}
use Rattle.wide.proofs.Laws.{product_high}
use Rattle.lively.proofs.above_line.Goals as goal

pub sum-line-requires : goal.sum-line-requires
sum-line-requires c =
    let first = product_high c.product.result (2 ^ 64 - 1) (2 ^ 32 - 1) (2 ^ 32) c.product.ensures (omega arith) (omega arith) tt in
    let second = product_high c.product-2.result (2 ^ 64 - 1) (2 ^ 32 - 1) (2 ^ 32) c.product-2.ensures (omega arith) (omega arith) tt in
    omega arith
