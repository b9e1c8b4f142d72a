-- `climb::jumps_to` meets its contract: altitudes are small enough that their differences' squares fit. Assumes nothing.
use Prim.Native.Nat.{◌*◌, ◌≤◌}
use native.Mathlib.Omega.{arith}
use mathlib.Core.Path.{◌≡◌}
use lib.IntN.{nat_abs, ◌-ℤ◌}
use Rattle.std.proofs.lemmas.Int.{to_z-of_z}
use Rattle.base.proofs.Products.{product_at_most}
use Rattle.climb.specs.Inside.{step_most}
use Rattle.climb.proofs.Steps.{difference_at_most}
use Rattle.climb.proofs.jumps_to.Goals as goal

pub overflow_mul-result-2 : goal.overflow_mul-result-2
overflow_mul-result-2 c =
    let a = c.args in
    let d : c.abs_diff.result ≡ nat_abs (a.recorded -ℤ a.before) = grind (arith, to_z-of_z) in
    let small : c.from-d.result ≤ step_most = omega (arith, d, difference_at_most a.before a.recorded c.requires.0 c.requires.1) in
    let d_square : c.from-d.result * c.from-d.result ≤ step_most * step_most = product_at_most {m = step_most} {n = step_most} (step_most * step_most) small small tt in
    omega (arith, d_square)
