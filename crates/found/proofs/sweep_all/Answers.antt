-- `found::sweep_all` meets its contract: its budget lasts to the end of the sweep. Assumes nothing.
use mathlib.Core.Path.{◌≡◌, ◌∙◌}
use Rattle.sweep.specs.Sweep.{beginning}
use Rattle.found.proofs.Ending.{dropped_all, moves_all, ends_all}
use Rattle.found.proofs.sweep_all.Goals as goal

pub returns : goal.returns
returns c =
    let zero = c.default-start.ensures in
    let start : c.default-start.result ≡ beginning = λ i. record { taken = zero.0 i; dropped = zero.1.0 i; mass = zero.1.1.0 i; moves = zero.1.1.1 i } in
    let s = c.sweep-swept in
    let ok = c.requires in
    let answer = rw start at s.ensures.0 in
    (dropped_all _ _ _ ok answer, moves_all _ _ _ ok answer, (rw start at s.ensures.1) ∙ ends_all _ _ _ ok)
