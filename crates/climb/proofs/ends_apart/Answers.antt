-- `climb::ends_apart` meets its contract: the first and the last second with an altitude are those that are found. Assumes nothing.
use borrow.Author.Rules.{rules}
use mathlib.Core.Path.{◌≡◌, refl}
use lib.IntN.{pos, nat_abs, ◌-ℤ◌}
use lib.ListN.{get_or}
use Rattle.std.proofs.lemmas.Int.{to_z-of_z}
use native.Mathlib.Omega.{arith}
use Rattle.climb.proofs.Ends.{first_at, last_at, no_difference, difference_of}
use Rattle.climb.proofs.ends_apart.Goals as goal

pub returns-in_default : goal.returns-in_default
returns-in_default c = rw (no_difference c.args.trip.now.states.now c.args.trip.now.altitudes.now (search rules)) refl

pub returns : goal.returns
returns c =
    let states = c.args.trip.now.states.now in
    let altitudes = c.args.trip.now.altitudes.now in
    let first = first_at states c.in-Some.first (search rules) (search rules) (search rules) in
    let last = last_at states c.in-Some-rposition.last (search rules) (search rules) (search rules) in
    let d : c.abs_diff.result ≡ nat_abs (get_or altitudes c.in-Some-rposition.last (pos 0) -ℤ get_or altitudes c.in-Some.first (pos 0)) = grind (arith, to_z-of_z) in
    rw (d, difference_of states altitudes c.in-Some.first c.in-Some-rposition.last first last) refl
