-- Classes: a mean speed whose class is one of the three is below that of the motorway, and each class has a cell. Assumes nothing.
use Prim.Native.Nat.{ℕ, ◌*◌, ◌≤◌, ◌<◌}
use mathlib.Core.Path.{◌≡◌, refl}
use mathlib.Core.Bool.{Bool, true, false}
use native.Mathlib.Omega.{arith}
use lib.Dec.{ltb, eqb}
use borrow.Author.Tests.{le-ltb, ltb-true, ltb-false}
use Rattle.base.specs.Fraction.{Fraction, whole, below}
use Rattle.base.specs.declared.road.Road.{Road}
use Rattle.base.specs.declared.road.Road.TheVariants.{Urban, Rural, Motorway}
use Rattle.base.specs.Roads.{road_number}
use Rattle.base.specs.Words.{pick}
use Rattle.base.proofs.Choice.{both_ways}
use Rattle.windows.specs.Figure.{mean_speed, unclassed, urban_below, rural_below, motorway_below, class_of}
use Rattle.windows.proofs.Exact.{mean_below}

pub has_class : (s n : ℕ) → (class_of (mean_speed s n) ≡ unclassed → ⊥) → 10 * s < motorway_below * n
unfolding class_of
has_class s n classed = go (ltb (10 * s) (motorway_below * n)) refl
  where
    go : (t : Bool) → ltb (10 * s) (motorway_below * n) ≡ t → 10 * s < motorway_below * n
    go true p = ltb-true (10 * s) (motorway_below * n) p
    go false p =
        let fast : motorway_below * n ≤ 10 * s = ltb-false (10 * s) (motorway_below * n) p in
        let not-urban : urban_below * n ≤ 10 * s = omega arith in
        let not-rural : rural_below * n ≤ 10 * s = omega arith in
        absurd (classed (rw (mean_below s n urban_below, mean_below s n rural_below, mean_below s n motorway_below, le-ltb _ _ not-urban, le-ltb _ _ not-rural, p)))

pub class_known : (v : Fraction) → class_of v < 4
unfolding class_of
class_known v =
    both_ways (λ (k : ℕ). k < 4) (below v (whole urban_below)) (omega arith)
    (both_ways (λ (k : ℕ). k < 4) (below v (whole rural_below)) (omega arith)
    (both_ways (λ (k : ℕ). k < 4) (below v (whole motorway_below)) (omega arith) (omega arith)))

-- a window that has a class is not of those that have none
pub is_classed : (road : Road) → eqb (road_number road) unclassed ≡ false
is_classed Urban = refl
is_classed Rural = refl
is_classed Motorway = refl

-- a window counts at most once inside
pub one_most : (t : Bool) → pick t 1 0 ≤ 1
one_most t = both_ways (λ (k : ℕ). k ≤ 1) t (omega arith) (omega arith)
