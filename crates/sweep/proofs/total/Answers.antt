-- `sweep::total` meets its contract: after i steps the first i masses of each half are added (`Halves` of `proofs/Prefix.antt`). Assumes nothing.
use Prim.Native.Nat.{◌+◌, ◌/◌, ◌≤◌}
use mathlib.Core.Path.{◌≡◌}
use native.Mathlib.Omega.{arith}
use lib.ListN.{length, get_or}
use Rattle.base.specs.Words.{sum}
use Rattle.sweep.proofs.Prefix.{Halves, halves_none, halves_more, halves_most, halves_even, halves_odd}
use Rattle.sweep.proofs.total.Goals as goal

pub loop-i-init : goal.loop-i-init
loop-i-init c =
    halves_none _ _

pub overflow_add-mass-in-loop-i : goal.overflow_add-mass-in-loop-i
overflow_add-mass-in-loop-i c =
    let most : c.loop-i.mass + (get_or c.args.co2.now c.loop-i.i 0 + get_or c.args.co2.now (length c.args.co2.now / 2 + c.loop-i.i) 0) ≤ sum c.args.co2.now = halves_most _ _ _ _ c.loop-i.invariant (omega arith) c.loop-i-test.true in
    omega (arith, most)

pub overflow_add-mass-in-loop-i-2 : goal.overflow_add-mass-in-loop-i-2
overflow_add-mass-in-loop-i-2 c =
    let most : c.loop-i.mass + (get_or c.args.co2.now c.loop-i.i 0 + get_or c.args.co2.now (length c.args.co2.now / 2 + c.loop-i.i) 0) ≤ sum c.args.co2.now = halves_most _ _ _ _ c.loop-i.invariant (omega arith) c.loop-i-test.true in
    omega (arith, most)

pub loop-i-preserved : goal.loop-i-preserved
loop-i-preserved c =
    halves_more _ _ _ _ c.loop-i.invariant (omega arith) c.loop-i-test.true

pub returns-then-half-co2 : goal.returns-then-half-co2
returns-then-half-co2 c =
    let ended : Halves c.args.co2.now (length c.args.co2.now / 2) (length c.args.co2.now / 2) c.loop-i.mass = let all : c.loop-i.i ≡ length c.args.co2.now / 2 = omega (arith, c.loop-i.invariant.within) in
    rw all at c.loop-i.invariant in
    halves_even _ _ _ (ended) c.if-half-co2.true

pub overflow_add-result-2 : goal.overflow_add-result-2
overflow_add-result-2 c =
    let ended : Halves c.args.co2.now (length c.args.co2.now / 2) (length c.args.co2.now / 2) c.loop-i.mass = let all : c.loop-i.i ≡ length c.args.co2.now / 2 = omega (arith, c.loop-i.invariant.within) in
    rw all at c.loop-i.invariant in
    let odd : c.loop-i.mass + get_or c.args.co2.now (length c.args.co2.now / 2 + length c.args.co2.now / 2) 0 ≡ sum c.args.co2.now = halves_odd _ _ _ (ended) (omega (arith, c.if-half-co2.false)) in
    omega (arith, odd, c.requires)

pub returns : goal.returns
returns c =
    let ended : Halves c.args.co2.now (length c.args.co2.now / 2) (length c.args.co2.now / 2) c.loop-i.mass = let all : c.loop-i.i ≡ length c.args.co2.now / 2 = omega (arith, c.loop-i.invariant.within) in
    rw all at c.loop-i.invariant in
    let odd : c.loop-i.mass + get_or c.args.co2.now (length c.args.co2.now / 2 + length c.args.co2.now / 2) 0 ≡ sum c.args.co2.now = halves_odd _ _ _ (ended) (omega (arith, c.if-half-co2.false)) in
    odd
