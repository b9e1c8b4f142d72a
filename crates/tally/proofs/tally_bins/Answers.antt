-- `tally::tally_bins` meets its contract: the bins are those of the first i seconds, since a second more changes the tally of its bin.
-- Assumes nothing.
use Prim.Native.Nat.{◌+◌}
use mathlib.Core.Path.{◌≡◌, refl, sym, ◌∙◌}
use mathlib.Core.List.{[], ◌∷◌}
use native.Mathlib.Omega.{arith}
use lib.ListN.{get_or, set}
use Rattle.second.specs.Bins.{bin_of}
use Rattle.tally.specs.declared.Tally.{Tally}
use Rattle.tally.specs.Tally.{no_seconds}
use Rattle.tally.specs.Inside.{bin_tallies_after, added, Room}
use Rattle.tally.proofs.Tallies.{bins_none, bins_more, bin_room, total_room}
use Rattle.tally.proofs.tally_bins.Goals as goal

-- a tally of zeros is that of no second
zeros : (t : Tally) → (t.seconds ≡ 0) × (t.distance ≡ 0) × (t.co2 ≡ 0) × (t.nox ≡ 0) → t ≡ no_seconds
zeros t e i = record { seconds = e.0 i; distance = e.1 i; co2 = e.2 i; nox = e.3 i }

none_room : Room (added (no_seconds ∷ no_seconds ∷ no_seconds ∷ []))
unfolding added
none_room = record { seconds = omega arith; distance = omega arith; co2 = omega arith; nox = omega arith }

pub loop-i-init : goal.loop-i-init
loop-i-init c =
    let e = c.default-bins.ensures in
    let none = zeros c.default-bins.result (e.0, e.1.0, e.1.1.0, e.1.1.1) in
    (rw none (sym (bins_none _ _ _ _)), rw none none_room)

pub with_second-requires : goal.with_second-requires
with_second-requires c =
    let trip = c.args.trip.now in
    let bin : c.index-bin.result ≡ bin_of (get_or trip.speeds.now c.loop-i.i 0) = c.index-bin.ensures.number ∙ c.road_of.ensures in
    rw (c.loop-i.invariant.0, bin)
    (bin_room _ _ _ _ (λ k. (c.type_inv.speeds k).fits) (λ k. (c.type_inv.co2 k).fits) (λ k. (c.type_inv.nox k).fits) _ _ (omega arith))

pub loop-i-preserved : goal.loop-i-preserved
loop-i-preserved c =
    let trip = c.args.trip.now in
    let bin : c.index-bin.result ≡ bin_of (get_or trip.speeds.now c.loop-i.i 0) = c.index-bin.ensures.number ∙ c.road_of.ensures in
    let more : set c.loop-i.bins c.index-bin.result c.with_second.result ≡ bin_tallies_after trip.states.now trip.speeds.now trip.co2.now trip.nox.now (c.loop-i.i + 1) = rw (c.with_second.ensures, bin, bins_more, ← c.loop-i.invariant.0) refl in
    (more, rw more (total_room _ _ _ _ (λ k. (c.type_inv.speeds k).fits) (λ k. (c.type_inv.co2 k).fits) (λ k. (c.type_inv.nox k).fits) _ (omega arith)))
