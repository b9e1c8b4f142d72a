-- What a window is: the shortest run of kept seconds from its first one that reaches the reference. Nothing here speaks of the sweep. Assumes nothing.
use Prim.Native.Nat.{ℕ, suc, ◌+◌, ◌-◌, ◌≤◌, ◌<◌}
use mathlib.Core.Path.{◌≡◌, refl, sym, ◌∙◌, ap}
use mathlib.Core.Bool.{Bool, true, false, true≢false, ◌&&◌}
use mathlib.Core.List.{List, ◌++◌}
use native.Mathlib.Omega.{arith}
use lib.Dec.{leb}
use lib.ListN.{length, take, take-append-drop}
use lib.Seq.{take-take}
use borrow.Author.Tests.{lt-ltb, le-leb, lt-leb, ltb-true, leb-true, leb-false}
use Rattle.base.specs.Words.{sum, sum_first}
use Rattle.base.proofs.FirstWhere.{IsFirstWhere, first_where_lem}
use Rattle.base.proofs.HowMany.{how_many_least, how_many_most}
use Rattle.base.proofs.Search.{finds}
use Rattle.base.proofs.SumOver.{how_many_at_most}
use Rattle.base.proofs.Sums.{sum-append}
use Rattle.base.proofs.Tests.{and_left, and_right, never_both}
use Rattle.sweep.specs.Window.{from_to, window_last, has_window, windows}
use Rattle.sweep.specs.Runs.{IsWindow}
use Rattle.sweep.proofs.Prefix.{first_rises}

-- the sum f to l, by the sums from the front
pub sum_from_to : (co2 : List ℕ) (f l : ℕ) → f ≤ l → sum_first f co2 + sum (from_to f l co2) ≡ sum_first (suc l) co2
sum_from_to co2 f l h =
    let whole : sum (take f (take (suc l) co2) ++ from_to f l co2) ≡ sum_first (suc l) co2 = ap sum (take-append-drop f (take (suc l) co2)) in
    let front : sum (take f (take (suc l) co2)) ≡ sum_first f co2 = ap sum (take-take f (suc l) co2 (omega arith)) in
    omega (arith, sum-append (take f (take (suc l) co2)) (from_to f l co2))

module _ (reference : ℕ) (co2 : List ℕ) where
  -- the test by which a window's end is found
  abbrev ends : ℕ → ℕ → Bool
  ends f l = leb f l && leb reference (sum (from_to f l co2))

  found : (f : ℕ) → IsFirstWhere (ends f) (length co2) (window_last reference co2 f)
  unfolding window_last
  found f = first_where_lem (ends f) (length co2)

  not_yet : (f k : ℕ) → (f ≤ k → sum (from_to f k co2) < reference) → ends f k ≡ false
  not_yet f k light = go (leb f k) refl
    where
      go : (t : Bool) → leb f k ≡ t → t && leb reference (sum (from_to f k co2)) ≡ false
      go true p = lt-leb reference (sum (from_to f k co2)) (light (leb-true f k p))
      go false p = refl

  still_light : (f k : ℕ) → f ≤ k → ends f k ≡ false → sum (from_to f k co2) < reference
  still_light f k h e = leb-false reference (sum (from_to f k co2)) (rw (le-leb f k h) at e)

  there : (f l : ℕ) → f ≤ l → reference ≤ sum (from_to f l co2) → ends f l ≡ true
  there f l h r = rw (le-leb f l h) (le-leb reference (sum (from_to f l co2)) r)

  -- each window is the shortest run from its first kept second that reaches the reference
  pub window : (f : ℕ) → has_window reference co2 f ≡ true → IsWindow reference co2 f (window_last reference co2 f)
  unfolding has_window
  window f h =
      let l = window_last reference co2 f in
      let within : l < length co2 = ltb-true l (length co2) h in
      let tests : ends f l ≡ true = (found f).there within in
      record {
        from = leb-true f l (and_left (leb f l) (leb reference (sum (from_to f l co2))) tests);
        within = within;
        reaches = leb-true reference (sum (from_to f l co2)) (and_right (leb f l) (leb reference (sum (from_to f l co2))) tests);
        shortest = λ k s below. still_light f k s ((found f).before k below);
      }

  -- and there is only one such run
  pub window_is : (f l : ℕ) → IsWindow reference co2 f l → window_last reference co2 f ≡ l
  unfolding window_last
  window_is f l w =
      finds (ends f) (length co2) l w.within (λ k below. not_yet f k (λ s. w.shortest k s below)) (there f l w.from w.reaches)

  pub window_has : (f l : ℕ) → IsWindow reference co2 f l → has_window reference co2 f ≡ true
  unfolding has_window
  window_has f l w = lt-ltb (window_last reference co2 f) (length co2) (omega (arith, window_is f l w, w.within))

  -- every first second that can have a window has one
  pub can_have : (f l : ℕ) → f ≤ l → l < length co2 → reference ≤ sum (from_to f l co2) → has_window reference co2 f ≡ true
  unfolding has_window
  can_have f l h n r =
      let late : l < window_last reference co2 f → ⊥ = λ below. never_both (there f l h r) ((found f).before l below) in
      lt-ltb (window_last reference co2 f) (length co2) (omega arith)

  -- where no run reaches the reference there is no window
  pub has_none : (f : ℕ) → ((l : ℕ) → f ≤ l → l < length co2 → sum (from_to f l co2) < reference) → has_window reference co2 f ≡ false
  has_none f light = go (has_window reference co2 f) refl
    where
      go : (t : Bool) → has_window reference co2 f ≡ t → t ≡ false
      go false e = refl
      go true e =
          let w = window f e in
          absurd (omega (arith, w.reaches, light (window_last reference co2 f) w.from w.within))

  -- a window by the sums from the front
  pub window_by_sums : (f l : ℕ) → f ≤ l → l < length co2 → reference + sum_first f co2 ≤ sum_first (suc l) co2 → ((k : ℕ) → k < l → sum_first (suc k) co2 < reference + sum_first f co2) → IsWindow reference co2 f l
  window_by_sums f l h n reaches light =
      record {
        from = h;
        within = n;
        reaches = omega (arith, sum_from_to co2 f l h);
        shortest = λ k (s : f ≤ k) (below : k < l). omega (arith, sum_from_to co2 f k s, light k below);
      }

  -- a window reaches the reference, by the sums from the front
  pub reaches_by_sums : (f l : ℕ) → IsWindow reference co2 f l → reference + sum_first f co2 ≤ sum_first (suc l) co2
  reaches_by_sums f l w = omega (arith, sum_from_to co2 f l w.from, w.reaches)

  -- f can have a window where the sums from the front say so
  pub can_by_sums : (f l : ℕ) → f < l → l ≤ length co2 → reference + sum_first f co2 ≤ sum_first l co2 → has_window reference co2 f ≡ true
  can_by_sums f l h n r =
      let e : suc (l - 1) ≡ l = omega arith in
      let up : sum_first (suc (l - 1)) co2 ≡ sum_first l co2 = ap (λ (k : ℕ). sum_first k co2) e in
      can_have f (l - 1) (omega arith) (omega arith) (omega (arith, sum_from_to co2 f (l - 1) (omega arith)))

  -- no window starts at the end or later
  pub starts_within : (f : ℕ) → has_window reference co2 f ≡ true → f < length co2
  starts_within f h = let w = window f h in omega (arith, w.from, w.within)

  module _ (positive : 1 ≤ reference) (f g : ℕ) (order : f ≤ g) (later : has_window reference co2 g ≡ true) where
    -- a second before one that has a window has one
    pub earlier_has : has_window reference co2 f ≡ true
    earlier_has =
        let w = window g later in
        let low = first_rises co2 f g order in
        can_by_sums f (suc (window_last reference co2 g)) (omega (arith, w.from)) (omega (arith, w.within)) (omega (arith, reaches_by_sums g (window_last reference co2 g) w))

    -- ends never step back
    pub ends_rise : window_last reference co2 f ≤ window_last reference co2 g
    ends_rise =
        let last = window_last reference co2 g in
        let w = window g later in
        let v = window f earlier_has in
        let start : f ≤ last = omega (arith, w.from) in
        let back : last < window_last reference co2 f → ⊥ = λ below. omega (arith, v.shortest last start below, sum_from_to co2 f last start, first_rises co2 f g order, reaches_by_sums g last w) in
        omega arith

  -- ---- how many there are
  -- the windows are those of the first seconds: as many as there are windows
  pub first_have : 1 ≤ reference → (f : ℕ) → f < windows reference co2 → has_window reference co2 f ≡ true
  first_have positive f h = go (has_window reference co2 f) refl
    where
      after : has_window reference co2 f ≡ false → (g : ℕ) → f ≤ g → has_window reference co2 g ≡ false
      after e g l = later (has_window reference co2 g) refl
        where
          later : (t : Bool) → has_window reference co2 g ≡ t → t ≡ false
          later false p = refl
          later true p = absurd (true≢false (sym (earlier_has positive f g l p) ∙ e))

      go : (t : Bool) → has_window reference co2 f ≡ t → t ≡ true
      go true e = refl
      go false e = absurd (omega (arith, how_many_most (has_window reference co2) f (length co2) (after e)))

  pub later_none : 1 ≤ reference → (f : ℕ) → windows reference co2 ≤ f → has_window reference co2 f ≡ false
  later_none positive f h = go (has_window reference co2 f) refl
    where
      go : (t : Bool) → has_window reference co2 f ≡ t → t ≡ false
      go false e = refl
      go true e =
          let all : (g : ℕ) → g < suc f → has_window reference co2 g ≡ true = λ g (k : g < suc f). earlier_has positive g f (omega arith) e in
          absurd (omega (arith, how_many_least (has_window reference co2) (suc f) (length co2) (omega (arith, starts_within f e)) all))

  -- no more windows than kept seconds
  pub windows_most : windows reference co2 ≤ length co2
  windows_most = how_many_at_most (has_window reference co2) (length co2)
