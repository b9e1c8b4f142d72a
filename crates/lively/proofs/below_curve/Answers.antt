-- `lively::below_curve` meets its contract: the high words are small, so the sum has room, and the products are those of the
-- definition. Assumes nothing.
use Prim.Native.Nat.{◌*◌, ◌-◌, ◌^◌}
use native.Mathlib.Omega.{arith}
use Rattle.wide.proofs.Laws.{product_high}
use Rattle.lively.proofs.below_curve.Goals as goal

pub sum-left-requires : goal.sum-left-requires
sum-left-requires c =
    let first = product_high c.product.result (2 ^ 64 - 1) (3_125 * (2 ^ 32 - 1)) (3_125 * 2 ^ 32) c.product.ensures (omega arith) (omega arith) tt in
    let second = product_high c.product-2.result (36 * (2 ^ 32 - 1)) (2 ^ 32 - 1) 36 c.product-2.ensures (omega arith) (omega arith) tt in
    omega arith
