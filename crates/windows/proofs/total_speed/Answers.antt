-- `windows::total_speed` meets its contract: after i steps the first i speeds of each half are added (`Halves` of the sweep's sums). Assumes nothing.
use Prim.Native.Nat.{◌+◌, ◌/◌, ◌≤◌}
use mathlib.Core.Path.{◌≡◌}
use native.Mathlib.Omega.{arith}
use lib.ListN.{length, get_or}
use Rattle.base.specs.Words.{sum}
use Rattle.sweep.proofs.Prefix.{Halves, halves_none, halves_more, halves_most, halves_even, halves_odd}
use Rattle.windows.proofs.Parts.{speeds_fit}
use Rattle.windows.proofs.total_speed.Goals as goal

pub loop-i-init : goal.loop-i-init
loop-i-init c =
    halves_none _ _

pub overflow_add-total-in-loop-i : goal.overflow_add-total-in-loop-i
overflow_add-total-in-loop-i c =
    omega (arith, c.requires.each c.loop-i.i (omega arith), c.requires.each (length c.args.speeds.now / 2 + c.loop-i.i) (omega arith))

pub overflow_cast-total : goal.overflow_cast-total
overflow_cast-total c =
    let most : c.loop-i.total + (get_or c.args.speeds.now c.loop-i.i 0 + get_or c.args.speeds.now (length c.args.speeds.now / 2 + c.loop-i.i) 0) ≤ sum c.args.speeds.now = halves_most _ _ _ _ c.loop-i.invariant (omega arith) c.loop-i-test.true in
    omega (arith, most, speeds_fit c.requires)

pub overflow_add-total-in-loop-i-2 : goal.overflow_add-total-in-loop-i-2
overflow_add-total-in-loop-i-2 c =
    let most : c.loop-i.total + (get_or c.args.speeds.now c.loop-i.i 0 + get_or c.args.speeds.now (length c.args.speeds.now / 2 + c.loop-i.i) 0) ≤ sum c.args.speeds.now = halves_most _ _ _ _ c.loop-i.invariant (omega arith) c.loop-i-test.true in
    omega (arith, most, speeds_fit c.requires)

pub loop-i-preserved : goal.loop-i-preserved
loop-i-preserved c =
    halves_more _ _ _ _ c.loop-i.invariant (omega arith) c.loop-i-test.true

pub returns-then-half-speeds : goal.returns-then-half-speeds
returns-then-half-speeds c =
    let ended : Halves c.args.speeds.now (length c.args.speeds.now / 2) (length c.args.speeds.now / 2) c.loop-i.total = let all : c.loop-i.i ≡ length c.args.speeds.now / 2 = omega (arith, c.loop-i.invariant.within) in
    rw all at c.loop-i.invariant in
    halves_even _ _ _ (ended) c.if-half-speeds.true

pub overflow_cast-result : goal.overflow_cast-result
overflow_cast-result c =
    let ended : Halves c.args.speeds.now (length c.args.speeds.now / 2) (length c.args.speeds.now / 2) c.loop-i.total = let all : c.loop-i.i ≡ length c.args.speeds.now / 2 = omega (arith, c.loop-i.invariant.within) in
    rw all at c.loop-i.invariant in
    let odd : c.loop-i.total + get_or c.args.speeds.now (length c.args.speeds.now / 2 + length c.args.speeds.now / 2) 0 ≡ sum c.args.speeds.now = halves_odd _ _ _ (ended) (omega (arith, c.if-half-speeds.false)) in
    omega (arith, odd, speeds_fit c.requires)

pub overflow_add-result-2 : goal.overflow_add-result-2
overflow_add-result-2 c =
    let ended : Halves c.args.speeds.now (length c.args.speeds.now / 2) (length c.args.speeds.now / 2) c.loop-i.total = let all : c.loop-i.i ≡ length c.args.speeds.now / 2 = omega (arith, c.loop-i.invariant.within) in
    rw all at c.loop-i.invariant in
    let odd : c.loop-i.total + get_or c.args.speeds.now (length c.args.speeds.now / 2 + length c.args.speeds.now / 2) 0 ≡ sum c.args.speeds.now = halves_odd _ _ _ (ended) (omega (arith, c.if-half-speeds.false)) in
    omega (arith, odd, speeds_fit c.requires)

pub returns : goal.returns
returns c =
    let ended : Halves c.args.speeds.now (length c.args.speeds.now / 2) (length c.args.speeds.now / 2) c.loop-i.total = let all : c.loop-i.i ≡ length c.args.speeds.now / 2 = omega (arith, c.loop-i.invariant.within) in
    rw all at c.loop-i.invariant in
    let odd : c.loop-i.total + get_or c.args.speeds.now (length c.args.speeds.now / 2 + length c.args.speeds.now / 2) 0 ≡ sum c.args.speeds.now = halves_odd _ _ _ (ended) (omega (arith, c.if-half-speeds.false)) in
    odd
