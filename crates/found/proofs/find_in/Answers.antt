-- `found::find_in` meets its contract: the sweep has come to its end, so the lane has the end of each window. Assumes nothing.
use mathlib.Core.Path.{refl}
use native.Mathlib.Omega.{arith}
use lib.ListN.{length-take}
use Rattle.windows.specs.Inside.{counts_of}
use Rattle.found.specs.Found.{found_in, ends_in}
use Rattle.found.proofs.Keeps.{sweepable, windows_few, swept}
use Rattle.found.proofs.find_in.Goals as goal

pub sweep_all-swept-requires : goal.sweep_all-swept-requires
sweep_all-swept-requires c =
    sweepable c.requires

pub slice_bounds-count_windows-end : goal.slice_bounds-count_windows-end
slice_bounds-count_windows-end c =
    let s = c.sweep_all-swept in
    let ok = c.requires in omega (arith, s.ensures.0, s.auto.ends, windows_few ok, ok.places)

pub slice_bounds-count_windows-end-2 : goal.slice_bounds-count_windows-end-2
slice_bounds-count_windows-end-2 c =
    let s = c.sweep_all-swept in
    let ok = c.requires in rw length-take (omega (arith, s.ensures.0, s.auto.ends, windows_few ok, ok.places))

pub count_windows-requires : goal.count_windows-requires
count_windows-requires c =
    let s = c.sweep_all-swept in
    swept c.requires c.args.ends.now _ _ refl s.ensures.2 s.ensures.0

pub overflow_cast-result-2 : goal.overflow_cast-result-2
overflow_cast-result-2 c =
    let ok = c.requires in omega (arith, c.sweep_all-swept.ensures.0, windows_few ok, ok.few)

pub overflow_cast-result-3 : goal.overflow_cast-result-3
overflow_cast-result-3 c =
    let ok = c.requires in omega (arith, c.sweep_all-swept.ensures.1, windows_few ok, ok.few)

pub returns : goal.returns
unfolding found_in ends_in counts_of
returns c =
    let s = c.sweep_all-swept in
    (rw (s.ensures.0, s.ensures.1, c.count_windows.ensures) refl, s.ensures.2)
