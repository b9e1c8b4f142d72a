-- The states that a sweep reaches are those that stand where the rule says: so refusal 13 needs no replay. Assumes nothing.
use Prim.Native.Nat.{ℕ, zero, suc, ◌+◌, ◌≤◌, ◌<◌}
use mathlib.Core.Path.{◌≡◌, refl, sym, ap}
use mathlib.Core.Bool.{Bool, true, false, ◌&&◌, and-eq-true_iff}
use mathlib.Core.List.{List}
use native.Mathlib.Omega.{arith}
use lib.Dec.{leb, ltb, eqb}
use lib.ListN.{length}
use borrow.Author.Tests.{eqb-true, ltb-true, leb-true}
use Rattle.base.specs.Words.{pick, sum_first, first_where}
use Rattle.base.proofs.Choice.{eqb_self}
use Rattle.sweep.specs.declared.SweepState.{SweepState}
use Rattle.sweep.specs.Sweep.{beginning, is_over, move, after_moves, moves_made, is_reached}
use Rattle.sweep.specs.Runs.{Standing}
use Rattle.sweep.proofs.Prefix.{first_rises}
use Rattle.sweep.proofs.Moves.{Next, next, begins, stands_after, over-after}

-- two states with the same four numbers are the same
same_state : (s t : SweepState) → s.taken ≡ t.taken → s.dropped ≡ t.dropped → s.mass ≡ t.mass → s.moves ≡ t.moves → s ≡ t
same_state s t a b c d = λ i. record { taken = a i; dropped = b i; mass = c i; moves = d i }

module _ (reference : ℕ) (co2 : List ℕ) where
  -- a run from s counts each move that it makes
  pub moves_counted : (budget : ℕ) (s : SweepState) → (after_moves reference co2 budget s).moves ≡ s.moves + moves_made reference co2 budget s
  unfolding after_moves moves_made first_where
  moves_counted zero s = omega arith
  moves_counted (suc budget) s = go (next reference co2 s) (moves_counted budget (move reference co2 s))
    where
      go : Next reference co2 s → (after_moves reference co2 budget (move reference co2 s)).moves ≡ (move reference co2 s).moves + moves_made reference co2 budget (move reference co2 s) → (after_moves reference co2 budget (move reference co2 s)).moves ≡ s.moves + pick (is_over reference co2 s) 0 (suc (moves_made reference co2 budget (move reference co2 s)))
      go (Next.closing h o e w) ih = rw o (omega (arith, ih, ap (λ (v : SweepState). v.moves) e))
      go (Next.taking h k o e w) ih = rw o (omega (arith, ih, ap (λ (v : SweepState). v.moves) e))
      go (Next.resting h k o e w) ih = rw (o, e, over-after reference co2 s o budget) (omega arith)

  -- it makes no more than the budget
  pub made_most : (budget : ℕ) (s : SweepState) → moves_made reference co2 budget s ≤ budget
  unfolding moves_made after_moves first_where
  made_most zero s = omega arith
  made_most (suc budget) s = go (is_over reference co2 s) (made_most budget (move reference co2 s))
    where
      go : (t : Bool) → moves_made reference co2 budget (move reference co2 s) ≤ budget → pick t 0 (suc (moves_made reference co2 budget (move reference co2 s))) ≤ suc budget
      go true ih = omega arith
      go false ih = omega arith

  -- and fewer only because the sweep is over
  pub fewer_over : (budget : ℕ) (s : SweepState) → moves_made reference co2 budget s < budget → is_over reference co2 (after_moves reference co2 budget s) ≡ true
  unfolding moves_made after_moves first_where
  fewer_over zero s h = absurd (omega arith)
  fewer_over (suc budget) s h = go (is_over reference co2 s) refl h (fewer_over budget (move reference co2 s))
    where
      made : ℕ
      made = moves_made reference co2 budget (move reference co2 s)

      end : SweepState
      end = after_moves reference co2 budget (move reference co2 s)

      go : (t : Bool) → is_over reference co2 s ≡ t → pick t 0 (suc made) < suc budget → (made < budget → is_over reference co2 end ≡ true) → is_over reference co2 end ≡ true
      go true o l ih = rw (over-after reference co2 s o (suc budget)) o
      go false o l ih = ih (omega arith)

  -- the two facts of a sweep that is over
  pub over_facts : (s : SweepState) → is_over reference co2 s ≡ true → (s.mass < reference) × (length co2 ≤ s.taken)
  over_facts s o =
      let p = (and-eq-true_iff (ltb s.mass reference) (leb (length co2) s.taken)).0 o in
      (ltb-true s.mass reference p.0, leb-true (length co2) s.taken p.1)

  -- of two states with equal moves that stand where the rule says, neither has taken more
  no_further : (s t : SweepState) → Standing reference co2 s → Standing reference co2 t → s.moves ≡ t.moves → s.taken < t.taken → ⊥
  no_further s t p q e h = omega (arith, p.counted, q.counted, p.closed t.dropped (omega (arith, p.counted, q.counted)), q.needed s.taken h)

  -- so they are one
  pub one_standing : (s t : SweepState) → Standing reference co2 s → Standing reference co2 t → s.moves ≡ t.moves → s ≡ t
  one_standing s t p q e =
      let below : s.taken < t.taken → ⊥ = no_further s t p q e in
      let above : t.taken < s.taken → ⊥ = no_further t s q p (sym e) in
      let taken : s.taken ≡ t.taken = omega arith in
      let dropped : s.dropped ≡ t.dropped = omega (arith, p.counted, q.counted) in
      let upper : sum_first s.taken co2 ≡ sum_first t.taken co2 = ap (λ (k : ℕ). sum_first k co2) taken in
      let lower : sum_first s.dropped co2 ≡ sum_first t.dropped co2 = ap (λ (k : ℕ). sum_first k co2) dropped in
      let mass : s.mass ≡ t.mass = omega (arith, p.weighed, q.weighed) in
      same_state s t taken dropped mass e

  -- a sweep that is over has made as many moves as any state that stands where the rule says
  pub over_last : (s t : SweepState) → Standing reference co2 s → Standing reference co2 t → is_over reference co2 t ≡ true → t.moves < s.moves → ⊥
  over_last s t p q o h =
      let f = over_facts t o in
      let more : t.dropped < s.dropped = omega (arith, p.counted, q.counted, p.within, f.1) in
      let all : sum_first s.taken co2 ≤ sum_first t.taken co2 = first_rises co2 s.taken t.taken (omega (arith, p.within, f.1)) in
      omega (arith, p.closed t.dropped more, q.weighed, f.0)

  module _ (positive : 1 ≤ reference) (s : SweepState) where
    there : SweepState
    there = after_moves reference co2 s.moves beginning

    pub stands_is : Standing reference co2 s → after_moves reference co2 s.moves beginning ≡ s
    unfolding there
    stands_is st =
        let stood : Standing reference co2 there = stands_after reference co2 positive s.moves beginning (begins reference co2) in
        let made : there.moves ≡ 0 + moves_made reference co2 s.moves beginning = moves_counted s.moves beginning in
        let most : moves_made reference co2 s.moves beginning ≤ s.moves = made_most s.moves beginning in
        let no_fewer : moves_made reference co2 s.moves beginning < s.moves → ⊥ = λ l. over_last s there st stood (fewer_over s.moves beginning l) (omega arith) in
        one_standing there s stood st (omega arith)

    -- a state that stands where the rule says is reached
    pub stands_reached : Standing reference co2 s → is_reached reference co2 s ≡ true
    unfolding is_reached
    stands_reached st = rw (stands_is st) (simp (eqb_self s.taken, eqb_self s.dropped, eqb_self s.mass, eqb_self s.moves))

    -- and a state that is reached stands where the rule says
    pub reached_is : is_reached reference co2 s ≡ true → after_moves reference co2 s.moves beginning ≡ s
    unfolding is_reached there
    reached_is e =
        let t = eqb there.taken s.taken in
        let d = eqb there.dropped s.dropped in
        let m = eqb there.mass s.mass in
        let n = eqb there.moves s.moves in
        let p = (and-eq-true_iff (t && d && m) n).0 e in
        let q = (and-eq-true_iff (t && d) m).0 p.0 in
        let r = (and-eq-true_iff t d).0 q.0 in
        same_state there s (eqb-true there.taken s.taken r.0) (eqb-true there.dropped s.dropped r.1) (eqb-true there.mass s.mass q.1) (eqb-true there.moves s.moves p.1)

    pub reached_stands : is_reached reference co2 s ≡ true → Standing reference co2 s
    reached_stands e = rw (reached_is e) at (stands_after reference co2 positive s.moves beginning (begins reference co2))

    -- where it does not stand so, it is not reached
    pub astray : (Standing reference co2 s → ⊥) → is_reached reference co2 s ≡ false
    astray never = go (is_reached reference co2 s) refl
      where
        go : (t : Bool) → is_reached reference co2 s ≡ t → t ≡ false
        go true e = absurd (never (reached_stands e))
        go false e = refl
