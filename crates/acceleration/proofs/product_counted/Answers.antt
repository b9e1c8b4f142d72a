-- `acceleration::product_counted` meets its contract: its tests are those of the definition, and the product of two u16 fits. Assumes nothing.
use mathlib.Core.Path.{◌≡◌, sym}
use native.Mathlib.Omega.{arith}
use Prim.Native.Nat.{◌+◌}
use mathlib.Core.Bool.{true, false, ◌&&◌}
use lib.Dec.{ltb}
use Rattle.acceleration.specs.D.{speed_before, speed_after, has_d}
use Rattle.acceleration.proofs.Rise.{in_other_bin, not_counted, counted}
use Rattle.acceleration.proofs.product_counted.Goals as goal

pub returns-then-index-bin : goal.returns-then-index-bin
returns-then-index-bin c =
    let a = c.args in
    sym (in_other_bin a.trip.now.states.now a.trip.now.speeds.now a.i a.bin (λ e. omega (arith, c.index.ensures.number, c.road_of.ensures, e)))

pub returns-then-has_d-before : goal.returns-then-has_d-before
returns-then-has_d-before c =
    let a = c.args in
    let passed : (has_d a.trip.now.states.now a.i && ltb (speed_before a.trip.now.speeds.now a.i + 72) (speed_after a.trip.now.speeds.now a.i)) ≡ true =
    rw (c.has_d.ensures, c.from-after.ensures, c.speed_after.ensures, c.from-before.ensures, c.speed_before.ensures) at c.if-has_d-before.true in
    rw (c.from.ensures, c.from-after.ensures, c.speed_after.ensures, c.from-before.ensures, c.speed_before.ensures) (sym (counted a.trip.now.states.now a.trip.now.speeds.now a.i a.bin (omega (arith, c.index.ensures.number, c.road_of.ensures)) passed))

pub returns : goal.returns
returns c =
    let a = c.args in
    let not_passed : (has_d a.trip.now.states.now a.i && ltb (speed_before a.trip.now.speeds.now a.i + 72) (speed_after a.trip.now.speeds.now a.i)) ≡ false =
    rw (c.has_d.ensures, c.from-after.ensures, c.speed_after.ensures, c.from-before.ensures, c.speed_before.ensures) at c.if-has_d-before.false in
    sym (not_counted a.trip.now.states.now a.trip.now.speeds.now a.i a.bin not_passed)
