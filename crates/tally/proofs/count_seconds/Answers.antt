-- `tally::count_seconds` meets its contract: the counts and the gap are those of the first i seconds. Assumes nothing.
use Prim.Native.Nat.{◌+◌}
use mathlib.Core.Path.{◌≡◌, sym, ◌∙◌}
use native.Mathlib.Omega.{arith}
use Rattle.tally.specs.declared.Counts.{Counts}
use Rattle.tally.specs.Counts.{gap_after}
use Rattle.tally.proofs.Gaps.{gap_at_most}
use Rattle.tally.proofs.Seconds.{gap_none, gap_more, counts_none, counts_more, counts_few}
use Rattle.tally.proofs.count_seconds.Goals as goal

-- counts of zeros are those of no second
zeros : (t : Counts) → (t.missing ≡ 0) × (t.gap ≡ 0) × (t.slow ≡ 0) × (t.fast ≡ 0) × (t.faster ≡ 0) × (t.fastest ≡ 0) → t ≡ record { missing = 0; gap = 0; slow = 0; fast = 0; faster = 0; fastest = 0 }
zeros t e i = record { missing = e.0 i; gap = e.1 i; slow = e.2 i; fast = e.3 i; faster = e.4 i; fastest = e.5 i }

pub loop-i-init : goal.loop-i-init
loop-i-init c =
    let e = c.default-counts.ensures in
    (zeros c.default-counts.result (e.0, e.1.0, e.1.1.0, e.1.1.1.0, e.1.1.1.1.0, e.1.1.1.1.1) ∙ sym (counts_none _ _), sym (gap_none _))

pub gap_with-gap-requires : goal.gap_with-gap-requires
gap_with-gap-requires c =
    omega (arith, gap_at_most c.args.trip.now.states.now c.loop-i.i)

pub with-counts-requires : goal.with-counts-requires
with-counts-requires c =
    rw c.loop-i.invariant.0 (counts_few _ _ _ (omega arith))

pub loop-i-preserved : goal.loop-i-preserved
loop-i-preserved c =
    let l = c.loop-i in
    let ends : c.gap_with-gap.result ≡ gap_after c.args.trip.now.states.now (l.i + 1) = rw (gap_more, ← l.invariant.1) c.gap_with-gap.ensures in
    (rw (counts_more, ← l.invariant.0, ← ends) c.with-counts.ensures, ends)
