-- Each turn of `input::read_input` has one read less, of the bytes that settle every stream. Assumes nothing.
use Prim.Native.Nat.{◌-◌}
use mathlib.Core.Path.{◌≡◌}
use mathlib.Core.Bool.{true}
use Rattle.reader.specs.Inside.{was_made}
use Rattle.second.specs.Lanes.{lanes_lent}
use Rattle.second.specs.Same.{SameLent}
use Rattle.input.proofs.Settling.{enough}
use Rattle.input.proofs.Reading.{Stands}
use Rattle.input.proofs.read_input.Given as goal

abbrev pub invariant-loop : goal.invariant-loop
invariant-loop l =
    let reader = l.made.0 in
    record {
      made : was_made reader ≡ true;
      stands : Stands (enough - l.counter) (lanes_lent l.initial.lanes) reader (lanes_lent l.lanes);
      same : SameLent l.initial.lanes l.lanes;
    }
