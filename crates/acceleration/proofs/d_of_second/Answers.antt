-- `acceleration::d_of_second` meets its contract: an accepted index is inside the lanes, and the rest is picked as in the definition.
-- Assumes nothing.
use Prim.Native.Nat.{◌<◌}
use mathlib.Core.Path.{◌≡◌, sym, refl, ap}
use Rattle.std.proofs.Common.{Some, Ok, to_z, of_z, w32}
use Rattle.std.proofs.lemmas.Result.{err_from_is_err_and}
use Rattle.std.proofs.lemmas.Int.{to_z-of_z}
use native.Mathlib.Omega.{arith}
use lib.ListN.{length}
use Rattle.second.specs.Lanes.{lanes_in}
use Rattle.acceleration.proofs.Refusals.{Accepted, accepted_facts}
use Rattle.acceleration.specs.D.{d_of, acceleration_of}
use Rattle.acceleration.proofs.d_of_second.Goals as goal
use Rattle.base.proofs.Numbers.{not_accepted}

pub returns-in_err-check-clause-value : goal.returns-in_err-check-clause-value
unfolding acceleration_of
returns-in_err-check-clause-value c =
    let p = err_from_is_err_and c.from_residual.result c.from_residual.ensures.1 in
    rw (p.1, p.2, sym c.in_err-check.ensures, not_accepted) refl

pub has_d-requires : goal.has_d-requires
has_d-requires c = (accepted_facts _ _ (sym (ap (λ f. f.number) c.in_ok-check.ensures))).inside

pub d_of-requires : goal.d_of-requires
d_of-requires c =
    let known : Accepted (lanes_in c.args.trip.now) c.args.i = accepted_facts _ _ (sym (ap (λ f. f.number) c.in_ok-check.ensures)) in
    let inside : c.args.i < length c.args.trip.now.speeds.now = rw known.lengths.speeds known.inside in
    inside

pub returns-then-has_d-clause-value : goal.returns-then-has_d-clause-value
unfolding acceleration_of
returns-then-has_d-clause-value c =
    let d : Ok (Some (to_z w32 (of_z w32 c.d_of.result))) ≡ Ok (Some (d_of c.args.trip.now.speeds.now c.args.i)) = grind (arith, to_z-of_z) in
    rw (sym c.in_ok-check.ensures, sym c.if-has_d.ensures) d

pub returns-clause-value : goal.returns-clause-value
unfolding acceleration_of
returns-clause-value c = rw (sym c.in_ok-check.ensures, sym c.if-has_d.ensures) refl
