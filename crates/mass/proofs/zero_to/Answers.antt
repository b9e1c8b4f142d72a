-- `mass::zero_to` meets its contract: its two comparisons are the definition's, and its 0.0 is the f64 zero. Assumes nothing.
use Rattle.std.proofs.Common.{◌≡◌, ◌∙◌, refl, Bool, true, false, ◌||◌, ◌&&◌, cond, Some, None, Less, Equal, Greater}
use lib.Ieee.{of_bits, of_int, Float, le, lt, eq}
use Rattle.std.specs.Ordering.{partial_le, float_partial_cmp, is_some_and, is_le}
use Rattle.std.specs.declared.ops.RangeInclusive.{RangeInclusive}
use Rattle.std.specs.Range.{range_inclusive_start, range_inclusive_end, range_inclusive_exhausted, range_inclusive_contains}
use Rattle.mass.specs.Mass.{zero_to}
use Rattle.mass.proofs.zero_to.Goals as goal

-- the library's order of floats is theirs
at_most : (x y : Float) → partial_le float_partial_cmp x y ≡ le x y
unfolding le
at_most x y = go (lt x y) (eq x y) (lt y x)
  where
    go : (less same more : Bool) → is_some_and is_le (cond less (Some Less) (cond same (Some Equal) (cond more (Some Greater) None))) ≡ less || same
    go true same more = refl
    go false true more = refl
    go false false true = refl
    go false false false = refl

-- so a range of floats has what lies between its ends
between : (r : RangeInclusive Float) (low high x : Float) → range_inclusive_start r ≡ low → range_inclusive_end r ≡ high → range_inclusive_exhausted r ≡ false → range_inclusive_contains float_partial_cmp r x ≡ le low x && le x high
between r low high x start end fresh = rw (start, end, fresh, at_most low x, at_most x high) refl

pub returns : goal.returns
unfolding zero_to of_bits of_int
returns c =
    c.contains.ensures.value ∙ between c.new.result _ _ c.args.x c.new.ensures.start c.new.ensures.end c.new.ensures.exhausted
