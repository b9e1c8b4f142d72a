-- `found::find` meets its contract: what is kept stands at the front of its lanes. Assumes nothing.
use mathlib.Core.Path.{◌∙◌}
use Rattle.kept.specs.Kept.{kept_of}
use Rattle.kept.proofs.Keeping.{kept_both}
use Rattle.found.proofs.Keeps.{front_is, front_long, keeps}
use Rattle.found.proofs.find.Goals as goal

pub slice_bounds-find_in-end : goal.slice_bounds-find_in-end
slice_bounds-find_in-end c =
    let k = c.keep-count in
    let a = c.args in
    rw k.ensures.1
    (front_long (kept_of a.trip.now.states.now a.trip.now.speeds.now a.trip.now.speeds.now) a.kept_speeds.now _ (k.ensures.0 ∙ kept_both a.trip.now.states.now a.trip.now.speeds.now a.trip.now.co2.now a.trip.now.speeds.now _))

pub slice_bounds-find_in-end-2 : goal.slice_bounds-find_in-end-2
slice_bounds-find_in-end-2 c =
    let k = c.keep-count in
    let count = k.ensures.0 ∙ kept_both _ _ _ _ _ in
    rw (k.ensures.1, front_is _ _ _ count) count

pub find_in-requires : goal.find_in-requires
find_in-requires c =
    let k = c.keep-count in
    let ok = c.requires in
    rw (k.ensures.1, k.ensures.2, front_is _ _ _ (k.ensures.0 ∙ kept_both _ _ _ _ _), front_is _ _ _ k.ensures.0) (keeps ok)

pub returns : goal.returns
returns c =
    let k = c.keep-count in
    let f = c.find_in in
    let answer = rw (k.ensures.1, k.ensures.2, front_is _ _ _ (k.ensures.0 ∙ kept_both _ _ _ _ _), front_is _ _ _ k.ensures.0) at f.ensures.0 in
    let lane = rw (k.ensures.2, front_is _ _ _ k.ensures.0) at f.ensures.1 in
    (answer, k.ensures.1, k.ensures.2, lane)
