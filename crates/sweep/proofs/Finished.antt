-- The sweep finds the windows: what it closes are windows, it is over after kept plus windows moves and not before, and its lane then holds
-- each window's end. Assumes nothing.
use Prim.Native.Nat.{ℕ, zero, suc, ◌+◌, ◌-◌, ◌≤◌, ◌<◌}
use mathlib.Core.Path.{◌≡◌, refl, sym, ◌∙◌, ap}
use mathlib.Core.Bool.{Bool, true, false}
use mathlib.Core.List.{List}
use mathlib.Core.Logic.{◌↔◌}
use native.Mathlib.Nat.{zero-add, suc-add}
use native.Mathlib.Omega.{arith}
use lib.Dec.{leb, ltb, eqb}
use lib.ListN.{length, get_or, set, length-set}
use lib.Seq.{get_or-set_same, get_or-set_other}
use borrow.Author.Tests.{ltb-true, ltb-false, eqb-true, eqb-false}
use Rattle.base.specs.Words.{pick, sum, sum_first}
use Rattle.base.proofs.Choice.{both_ways}
use Rattle.base.proofs.HowMany.{how_many_least, how_many_most}
use Rattle.sweep.specs.declared.SweepState.{SweepState}
use Rattle.sweep.specs.Sweep.{beginning, after_closing, after_taking, is_over, move, move_ends, after_moves, moves_made, ends_after}
use Rattle.sweep.specs.Window.{from_to, has_window, window_end, windows}
use Rattle.sweep.specs.Runs.{IsWindow, Written, Standing}
use Rattle.sweep.proofs.Prefix.{first_rises}
use Rattle.sweep.proofs.Moves.{Next, next, begins, open_window, stands_move, stands_after}
use Rattle.sweep.proofs.Reached.{moves_counted, made_most, fewer_over, over_facts}
use Rattle.sweep.proofs.Windows.{window_is, window_has, window_by_sums, can_by_sums, has_none, sum_from_to}

module _ (reference : ℕ) (co2 : List ℕ) where
  -- the numbers of a sweep that is over
  pub record Ended (s : SweepState) : Type 0 where
    pub taken : s.taken ≡ length co2
    pub dropped : s.dropped ≡ windows reference co2
    pub moves : s.moves ≡ length co2 + windows reference co2

module _ (reference : ℕ) (co2 : List ℕ) (positive : 1 ≤ reference) where
  -- what a move closes is the window of the second that it drops
  pub closes_window : {s : SweepState} → Standing reference co2 s → reference ≤ s.mass → IsWindow reference co2 s.dropped (s.taken - 1)
  closes_window {s} st h =
      let some : s.dropped < s.taken = open_window reference co2 positive st h in
      let last : suc (s.taken - 1) ≡ s.taken = omega arith in
      let up : sum_first (suc (s.taken - 1)) co2 ≡ sum_first s.taken co2 = ap (λ (k : ℕ). sum_first k co2) last in
      window_by_sums reference co2 s.dropped (s.taken - 1) (omega arith) (omega (arith, st.within)) (omega (arith, st.weighed)) (λ k (l : k < s.taken - 1). st.needed (suc k) (omega arith))

  pub closes_end : {s : SweepState} → Standing reference co2 s → reference ≤ s.mass → window_end reference co2 s.dropped ≡ s.taken
  unfolding window_end
  closes_end {s} st h =
      omega (arith, window_is reference co2 s.dropped (s.taken - 1) (closes_window st h), open_window reference co2 positive st h)

  -- each second dropped has a window
  pub dropped_have : {s : SweepState} → Standing reference co2 s → (f : ℕ) → f < s.dropped → has_window reference co2 f ≡ true
  dropped_have {s} st f h = can_by_sums reference co2 f s.taken (omega (arith, st.order)) st.within (st.closed f h)

  -- so no more are dropped than there are windows
  pub dropped_most : {s : SweepState} → Standing reference co2 s → s.dropped ≤ windows reference co2
  dropped_most {s} st =
      how_many_least (has_window reference co2) s.dropped (length co2) (omega (arith, st.order, st.within)) (dropped_have st)

  -- once it is over, no second that is left has a window
  pub left_none : {s : SweepState} → Standing reference co2 s → is_over reference co2 s ≡ true → (f : ℕ) → s.dropped ≤ f → has_window reference co2 f ≡ false
  left_none {s} st o f h = has_none reference co2 f light
    where
      light : (l : ℕ) → f ≤ l → l < length co2 → sum (from_to f l co2) < reference
      light l start within =
          let facts = over_facts reference co2 s o in
          let up = first_rises co2 (suc l) s.taken (omega (arith, facts.1)) in
          let low = first_rises co2 s.dropped f h in
          omega (arith, sum_from_to co2 f l start, st.weighed, facts.0)

  pub ended : {s : SweepState} → Standing reference co2 s → is_over reference co2 s ≡ true → Ended reference co2 s
  ended {s} st o =
      let facts = over_facts reference co2 s o in
      let all : s.dropped ≡ windows reference co2 = omega (arith, dropped_most st, how_many_most (has_window reference co2) s.dropped (length co2) (left_none st o)) in
      record {
        taken = omega (arith, st.within, facts.1);
        dropped = all;
        moves = omega (arith, st.counted, st.within, facts.1);
      }

  -- a state that has made as many moves is over
  pub full_over : {s : SweepState} → Standing reference co2 s → length co2 + windows reference co2 ≤ s.moves → is_over reference co2 s ≡ true
  full_over {s} st h = go (next reference co2 s)
    where
      go : Next reference co2 s → is_over reference co2 s ≡ true
      go (Next.closing l o e w) =
          let more : windows reference co2 ≤ s.dropped = omega (arith, st.counted, st.within) in
          let some : s.dropped < s.taken = open_window reference co2 positive st l in
          let has : (f : ℕ) → f < suc s.dropped → has_window reference co2 f ≡ true = λ f (k : f < suc s.dropped). window_at f (ltb f s.dropped) refl k l in
          let most = how_many_least (has_window reference co2) (suc s.dropped) (length co2) (omega (arith, st.within)) has in
          absurd (omega arith)
        where
          window_at : (f : ℕ) (t : Bool) → ltb f s.dropped ≡ t → f < suc s.dropped → reference ≤ s.mass → has_window reference co2 f ≡ true
          window_at f true p k l = dropped_have st f (ltb-true f s.dropped p)
          window_at f false p k l =
              let same : f ≡ s.dropped = omega (arith, ltb-false f s.dropped p) in
              rw same (window_has reference co2 s.dropped (s.taken - 1) (closes_window st l))
      go (Next.taking l k o e w) = absurd (omega (arith, st.counted, dropped_most st))
      go (Next.resting l k o e w) = o

  -- where the sweep stands after a number of moves from the beginning
  pub stands : (k : ℕ) → Standing reference co2 (after_moves reference co2 k beginning)
  stands k = stands_after reference co2 positive k beginning (begins reference co2)

  -- the sweep is over after exactly kept plus windows moves and at no smaller number
  pub over_exactly : (k : ℕ) → (is_over reference co2 (after_moves reference co2 k beginning) ≡ true) ↔ (length co2 + windows reference co2 ≤ k)
  over_exactly k = (there, back)
    where
      end : SweepState
      end = after_moves reference co2 k beginning

      there : is_over reference co2 end ≡ true → length co2 + windows reference co2 ≤ k
      there o = omega (arith, (ended (stands k) o).moves, moves_counted reference co2 k beginning, made_most reference co2 k beginning)

      back : length co2 + windows reference co2 ≤ k → is_over reference co2 end ≡ true
      back h = go (ltb (moves_made reference co2 k beginning) k) refl
        where
          go : (t : Bool) → ltb (moves_made reference co2 k beginning) k ≡ t → is_over reference co2 end ≡ true
          go true p = fewer_over reference co2 k beginning (ltb-true (moves_made reference co2 k beginning) k p)
          go false p =
              full_over (stands k)
              (omega (arith, ltb-false (moves_made reference co2 k beginning) k p, moves_counted reference co2 k beginning))

  -- stopped after any smaller number it has made exactly that many, and stands where the rule says (`stands`)
  pub stopped : (k : ℕ) → k ≤ length co2 + windows reference co2 → (after_moves reference co2 k beginning).moves ≡ k
  stopped k h = go (ltb (moves_made reference co2 k beginning) k) refl
    where
      go : (t : Bool) → ltb (moves_made reference co2 k beginning) k ≡ t → (after_moves reference co2 k beginning).moves ≡ k
      go true p =
          let o = fewer_over reference co2 k beginning (ltb-true (moves_made reference co2 k beginning) k p) in
          omega (arith, (ended (stands k) o).moves, moves_counted reference co2 k beginning, made_most reference co2 k beginning)
      go false p =
          omega (arith, ltb-false (moves_made reference co2 k beginning) k p, moves_counted reference co2 k beginning, made_most reference co2 k beginning)

  -- ---- the lane of ends
  -- a run drops only more
  pub drops_more : (k : ℕ) (s : SweepState) → s.dropped ≤ (after_moves reference co2 k s).dropped
  unfolding after_moves
  drops_more zero s = omega arith
  drops_more (suc k) s = go (next reference co2 s) (drops_more k (move reference co2 s))
    where
      go : Next reference co2 s → (move reference co2 s).dropped ≤ (after_moves reference co2 k (move reference co2 s)).dropped → s.dropped ≤ (after_moves reference co2 k (move reference co2 s)).dropped
      go (Next.closing l o e w) ih = let d = ap (λ (v : SweepState). v.dropped) e in omega arith
      go (Next.taking l m o e w) ih = let d = ap (λ (v : SweepState). v.dropped) e in omega arith
      go (Next.resting l m o e w) ih = let d = ap (λ (v : SweepState). v.dropped) e in omega arith

  after_closing_lem : {s t : SweepState} {before after : List ℕ} → Standing reference co2 s → reference ≤ s.mass → length co2 ≤ length before → Written reference co2 (after_closing co2 s) t (set before s.dropped s.taken) after → s.dropped < t.dropped → Written reference co2 s t before after
  after_closing_lem {s} {t} {before} {after} st h places w more =
      record {
        same_length = w.same_length ∙ length-set before s.dropped s.taken;
        ends = λ f l m. at f l m (eqb f s.dropped) refl;
        earlier = λ f (l : f < s.dropped). w.earlier f (omega arith) ∙ get_or-set_other before s.dropped f s.taken 0 (λ (e : f ≡ s.dropped). omega arith);
        later = λ f (l : t.dropped ≤ f). w.later f l ∙ get_or-set_other before s.dropped f s.taken 0 (λ (e : f ≡ s.dropped). omega arith);
      }
    where
      at : (f : ℕ) → s.dropped ≤ f → f < t.dropped → (b : Bool) → eqb f s.dropped ≡ b → get_or after f 0 ≡ window_end reference co2 f
      at f l m true p =
          let same : f ≡ s.dropped = eqb-true f s.dropped p in
          let first : s.dropped < length before = omega (arith, open_window reference co2 positive st h, st.within) in
          rw same (w.earlier s.dropped (omega arith) ∙ get_or-set_same before s.dropped s.taken 0 first ∙ sym (closes_end st h))
      at f l m false p =
          let other : f ≡ s.dropped → ⊥ = eqb-false f s.dropped p in
          w.ends f (omega arith) m

  -- a move in front of a run
  before_move : (s t : SweepState) (before after : List ℕ) → Standing reference co2 s → length co2 ≤ length before → (move reference co2 s).dropped ≤ t.dropped → Written reference co2 (move reference co2 s) t (move_ends reference co2 s before) after → Written reference co2 s t before after
  before_move s t before after st places more w = go (next reference co2 s)
    where
      go : Next reference co2 s → Written reference co2 s t before after
      go (Next.closing l o e u) =
          let d = ap (λ (v : SweepState). v.dropped) e in
          after_closing_lem st l places (rw (e, u before) at w) (omega arith)
      go (Next.taking l k o e u) =
          let v : Written reference co2 (after_taking co2 s) t before after = rw (e, u before) at w in
          record { same_length = v.same_length; ends = v.ends; earlier = v.earlier; later = v.later }
      go (Next.resting l k o e u) = rw (e, u before) at w

  move_length : (s : SweepState) (before : List ℕ) → length (move_ends reference co2 s before) ≡ length before
  unfolding move_ends
  move_length s before =
      both_ways (λ (l : List ℕ). length l ≡ length before) (leb reference s.mass) (length-set before s.dropped s.taken) refl

  -- what a run writes
  pub written : (k : ℕ) (s : SweepState) (before : List ℕ) → Standing reference co2 s → length co2 ≤ length before → Written reference co2 s (after_moves reference co2 k s) before (ends_after reference co2 k s before)
  unfolding after_moves ends_after
  written zero s before st places =
      record { same_length = refl; ends = λ f (l : s.dropped ≤ f) (m : f < s.dropped). absurd (omega arith); earlier = λ f l. refl; later = λ f l. refl }
  written (suc k) s before st places =
      let rest = written k (move reference co2 s) (move_ends reference co2 s before) (stands_move reference co2 positive s st) (omega (arith, move_length s before)) in
      before_move s (after_moves reference co2 k (move reference co2 s)) before (ends_after reference co2 k (move reference co2 s) (move_ends reference co2 s before)) st places (drops_more k (move reference co2 s)) rest

  -- ---- the finished sweep
  -- the lane of a sweep that is over holds the end of each window at its first second, and elsewhere what the caller left
  pub finished_ends : (k : ℕ) (before : List ℕ) → length co2 ≤ length before → is_over reference co2 (after_moves reference co2 k beginning) ≡ true → (f : ℕ) → get_or (ends_after reference co2 k beginning before) f 0 ≡ pick (has_window reference co2 f) (window_end reference co2 f) (get_or before f 0)
  finished_ends k before places o f = go (ltb f end.dropped) refl
    where
      end : SweepState
      end = after_moves reference co2 k beginning

      w : Written reference co2 beginning end before (ends_after reference co2 k beginning before)
      w = written k beginning before (begins reference co2) places

      go : (t : Bool) → ltb f end.dropped ≡ t → get_or (ends_after reference co2 k beginning before) f 0 ≡ pick (has_window reference co2 f) (window_end reference co2 f) (get_or before f 0)
      go true p =
          let l : f < end.dropped = ltb-true f end.dropped p in
          rw (dropped_have (stands k) f l) (w.ends f (omega arith) l)
      go false p =
          let l : end.dropped ≤ f = ltb-false f end.dropped p in
          rw (left_none (stands k) o f l) (w.later f l)

-- ---- runs compose
module _ (reference : ℕ) (co2 : List ℕ) where
  pub state_composes : (a b : ℕ) (s : SweepState) → after_moves reference co2 (a + b) s ≡ after_moves reference co2 b (after_moves reference co2 a s)
  unfolding after_moves
  state_composes zero b s = rw zero-add
  state_composes (suc a) b s = rw suc-add (state_composes a b (move reference co2 s))

  pub ends_compose : (a b : ℕ) (s : SweepState) (ends : List ℕ) → ends_after reference co2 (a + b) s ends ≡ ends_after reference co2 b (after_moves reference co2 a s) (ends_after reference co2 a s ends)
  unfolding after_moves ends_after
  ends_compose zero b s ends = rw zero-add
  ends_compose (suc a) b s ends = rw suc-add (ends_compose a b (move reference co2 s) (move_ends reference co2 s ends))

  -- the moves made add up
  pub moves_compose : (a b : ℕ) (s : SweepState) → moves_made reference co2 (a + b) s ≡ moves_made reference co2 a s + moves_made reference co2 b (after_moves reference co2 a s)
  moves_compose a b s =
      let whole = moves_counted reference co2 (a + b) s in
      let first = moves_counted reference co2 a s in
      let second = moves_counted reference co2 b (after_moves reference co2 a s) in
      omega (arith, ap (λ (v : SweepState). v.moves) (state_composes a b s))
