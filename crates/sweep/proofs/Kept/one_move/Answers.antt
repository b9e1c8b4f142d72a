-- `sweep::Kept::one_move` meets its contract: each return is one of the three things that a move can be, and a state that stands where
-- the rule says keeps every number in its type. Assumes nothing.
use Prim.Native.Nat.{◌≤◌, ◌<◌}
use mathlib.Core.Path.{refl}
use native.Mathlib.Omega.{arith}
use borrow.Author.Tests.{le-leb, lt-leb, lt-ltb, le-ltb}
use lib.ListN.{length}
use Rattle.sweep.specs.Sweep.{move, move_ends}
use Rattle.sweep.proofs.Moves.{first_held}
use Rattle.sweep.proofs.Kept.one_move.Goals as goal

pub overflow_cast-ends : goal.overflow_cast-ends
overflow_cast-ends c =
    omega (arith, c.requires.stands.within, c.requires.masses.few)

pub overflow_sub-result : goal.overflow_sub-result
overflow_sub-result c =
    let full : c.args.self.now.reference ≤ c.args.state.mass = omega arith in
    let ready = c.requires in
    first_held _ _ ready.positive ready.stands (full)

pub returns-then-self-mass : goal.returns-then-self-mass
unfolding move move_ends
returns-then-self-mass c =
    let full : c.args.self.now.reference ≤ c.args.state.mass = omega arith in
    simp (le-leb _ _ (full)) (refl, refl)

pub returns-then-taken-self : goal.returns-then-taken-self
unfolding move move_ends
returns-then-taken-self c =
    let light : c.args.state.mass < c.args.self.now.reference = omega arith in
    let a = c.args in
    let more : a.state.taken < length a.self.now.co2.now = omega arith in
    simp (lt-leb _ _ (light), lt-ltb _ _ more) (refl, refl)

pub returns : goal.returns
unfolding move move_ends
returns c =
    let light : c.args.state.mass < c.args.self.now.reference = omega arith in
    let a = c.args in
    let none_left : length a.self.now.co2.now ≤ a.state.taken = omega arith in
    simp (lt-leb _ _ (light), le-ltb _ _ none_left) (refl, refl)
