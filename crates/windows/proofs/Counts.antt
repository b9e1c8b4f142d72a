-- The counts, first second by first second: what the loop over the windows holds, and that classes and unclassed ones add up. Assumes nothing.
use Prim.Native.Nat.{ℕ, zero, suc, ◌+◌, ◌-◌, ◌^◌, ◌≤◌, ◌<◌}
use mathlib.Core.Path.{◌≡◌, refl, sym, ◌∙◌, ap}
use mathlib.Core.Bool.{Bool, true, false, ◌&&◌}
use mathlib.Core.List.{List, [], ◌∷◌}
use native.Mathlib.Omega.{arith}
use lib.Dec.{eqb}
use lib.ListN.{length, take, drop, get_or, set}
use Rattle.base.specs.declared.Plan.{Plan}
use Rattle.base.specs.Roads.{urban, rural, motorway}
use Rattle.base.specs.Words.{pick, sum, how_many}
use Rattle.base.proofs.HowMany.{how_many_none, how_many_more, how_many_rest, how_many_parts}
use Rattle.base.proofs.SumOver.{how_many_at_most}
use Rattle.sweep.specs.Window.{from_to, window_last, has_window, window_end, windows}
use Rattle.sweep.proofs.Windows.{window, first_have, later_none, windows_most}
use Rattle.windows.specs.declared.ClassCount.{ClassCount}
use Rattle.windows.specs.Figure.{unclassed, mean_speed, figure_of}
use Rattle.windows.specs.Counts.{no_count, window_figure, is_of_class, is_inside, class_count}
use Rattle.windows.specs.Inside.{WindowSeconds, SweptLanes, with_window, counts_of}
use Rattle.windows.proofs.Classes.{class_known}
use Rattle.windows.proofs.Parts.{part_is, part_length, part_light, part_kept, part_moves}
use Rattle.windows.proofs.PlanRanges.{plan_ranges}

-- four counts that are equal one by one
pub four : {a b c d e f g h : ClassCount} → a ≡ e → b ≡ f → c ≡ g → d ≡ h → ◌≡◌ {A = List ClassCount} (a ∷ b ∷ c ∷ d ∷ []) (e ∷ f ∷ g ∷ h ∷ [])
four p q r s = λ i. p i ∷ q i ∷ r i ∷ s i ∷ []

-- a window has one class of four
one_class : (has : Bool) (class : ℕ) → class < 4 → pick (has && eqb class urban) 1 0 + pick (has && eqb class rural) 1 0 + pick (has && eqb class motorway) 1 0 + pick (has && eqb class unclassed) 1 0 ≡ pick has 1 0
one_class false class h = refl
one_class true zero h = refl
one_class true (suc zero) h = refl
one_class true (suc (suc zero)) h = refl
one_class true (suc (suc (suc zero))) h = refl
one_class true (suc (suc (suc (suc class)))) h = absurd (omega arith)

module _ (plan : Plan) (speeds co2 : List ℕ) where
  -- each window's class has a cell
  pub cell : (f : ℕ) → (window_figure plan speeds co2 f).class < 4
  unfolding window_figure figure_of
  cell f =
      let l = window_last plan.reference co2 f in
      class_known (mean_speed (sum (from_to f l speeds)) (length (from_to f l co2)))

  -- the windows of the three classes and those without one are all windows
  pub classes_add_up : (class_count plan speeds co2 urban).windows + (class_count plan speeds co2 rural).windows + (class_count plan speeds co2 motorway).windows + (class_count plan speeds co2 unclassed).windows ≡ windows plan.reference co2
  classes_add_up =
      how_many_parts (has_window plan.reference co2) (is_of_class plan speeds co2 urban) (is_of_class plan speeds co2 rural) (is_of_class plan speeds co2 motorway) (is_of_class plan speeds co2 unclassed)
      (λ f. one_class (has_window plan.reference co2 f) (window_figure plan speeds co2 f).class (cell f)) (length co2)

  -- ---- the counts of the windows of the first n kept seconds
  abbrev count_at : ℕ → ℕ → ClassCount
  count_at n class =
      record { windows = how_many (is_of_class plan speeds co2 class) n; inside = how_many (is_inside plan speeds co2 class) n }

  pub counts_at : ℕ → List ClassCount
  counts_at n = count_at n urban ∷ count_at n rural ∷ count_at n motorway ∷ count_at n unclassed ∷ []

  pub counts_none : counts_at 0 ≡ no_count ∷ no_count ∷ no_count ∷ no_count ∷ []
  unfolding counts_at
  counts_none = four (none urban) (none rural) (none motorway) (none unclassed)
    where
      none : (class : ℕ) → count_at 0 class ≡ no_count
      none class = λ i. record { windows = how_many_none (is_of_class plan speeds co2 class) i; inside = how_many_none (is_inside plan speeds co2 class) i }

  -- no count is above the number of seconds
  pub counts_few : (n class : ℕ) → ((get_or (counts_at n) class no_count).windows ≤ n) × ((get_or (counts_at n) class no_count).inside ≤ n)
  unfolding counts_at
  counts_few n class = go class
    where
      few : (class : ℕ) → ((count_at n class).windows ≤ n) × ((count_at n class).inside ≤ n)
      few class = (how_many_at_most (is_of_class plan speeds co2 class) n, how_many_at_most (is_inside plan speeds co2 class) n)

      go : (k : ℕ) → ((get_or (counts_at n) k no_count).windows ≤ n) × ((get_or (counts_at n) k no_count).inside ≤ n)
      go zero = few urban
      go (suc zero) = few rural
      go (suc (suc zero)) = few motorway
      go (suc (suc (suc zero))) = few unclassed
      go (suc (suc (suc (suc k)))) = (omega arith, omega arith)

  -- one second more, which has a window: its class has one more, and no other
  module _ (f : ℕ) (has : has_window plan.reference co2 f ≡ true) where
    own : (class : ℕ) → eqb (window_figure plan speeds co2 f).class class ≡ true → with_window (window_figure plan speeds co2 f).inside (count_at f class) ≡ count_at (f + 1) class
    own class is =
        let w : how_many (is_of_class plan speeds co2 class) f + 1 ≡ how_many (is_of_class plan speeds co2 class) (f + 1) = rw (how_many_more (is_of_class plan speeds co2 class) f, has, is) refl in
        let v : how_many (is_inside plan speeds co2 class) f + pick (window_figure plan speeds co2 f).inside 1 0 ≡ how_many (is_inside plan speeds co2 class) (f + 1) = rw (how_many_more (is_inside plan speeds co2 class) f, has, is) refl in
        λ i. record { windows = w i; inside = v i }

    other : (class : ℕ) → eqb (window_figure plan speeds co2 f).class class ≡ false → count_at f class ≡ count_at (f + 1) class
    other class is =
        let w : how_many (is_of_class plan speeds co2 class) f ≡ how_many (is_of_class plan speeds co2 class) (f + 1) = rw (how_many_more (is_of_class plan speeds co2 class) f, has, is) (omega arith) in
        let v : how_many (is_inside plan speeds co2 class) f ≡ how_many (is_inside plan speeds co2 class) (f + 1) = rw (how_many_more (is_inside plan speeds co2 class) f, has, is) (omega arith) in
        λ i. record { windows = w i; inside = v i }

    pub counts_more : set (counts_at f) (window_figure plan speeds co2 f).class (with_window (window_figure plan speeds co2 f).inside (get_or (counts_at f) (window_figure plan speeds co2 f).class no_count)) ≡ counts_at (f + 1)
    unfolding counts_at
    counts_more = go (window_figure plan speeds co2 f).class refl (cell f)
      where
        go : (class : ℕ) → (window_figure plan speeds co2 f).class ≡ class → class < 4 → set (counts_at f) class (with_window (window_figure plan speeds co2 f).inside (get_or (counts_at f) class no_count)) ≡ counts_at (f + 1)
        go zero e h =
            four (own urban (ap (λ (k : ℕ). eqb k urban) e)) (other rural (ap (λ (k : ℕ). eqb k rural) e)) (other motorway (ap (λ (k : ℕ). eqb k motorway) e)) (other unclassed (ap (λ (k : ℕ). eqb k unclassed) e))
        go (suc zero) e h =
            four (other urban (ap (λ (k : ℕ). eqb k urban) e)) (own rural (ap (λ (k : ℕ). eqb k rural) e)) (other motorway (ap (λ (k : ℕ). eqb k motorway) e)) (other unclassed (ap (λ (k : ℕ). eqb k unclassed) e))
        go (suc (suc zero)) e h =
            four (other urban (ap (λ (k : ℕ). eqb k urban) e)) (other rural (ap (λ (k : ℕ). eqb k rural) e)) (own motorway (ap (λ (k : ℕ). eqb k motorway) e)) (other unclassed (ap (λ (k : ℕ). eqb k unclassed) e))
        go (suc (suc (suc zero))) e h =
            four (other urban (ap (λ (k : ℕ). eqb k urban) e)) (other rural (ap (λ (k : ℕ). eqb k rural) e)) (other motorway (ap (λ (k : ℕ). eqb k motorway) e)) (own unclassed (ap (λ (k : ℕ). eqb k unclassed) e))
        go (suc (suc (suc (suc class)))) e h = absurd (omega arith)

  -- past the last window nothing is counted, so all are counted with it
  pub counts_all : 1 ≤ plan.reference → counts_at (windows plan.reference co2) ≡ counts_of plan speeds co2
  unfolding counts_at counts_of
  counts_all positive = four (all urban) (all rural) (all motorway) (all unclassed)
    where
      last : ℕ
      last = windows plan.reference co2

      whole : last + (length co2 - last) ≡ length co2
      whole = omega (arith, windows_most plan.reference co2)

      all : (class : ℕ) → count_at last class ≡ class_count plan speeds co2 class
      all class =
          let none : (f : ℕ) → last ≤ f → is_of_class plan speeds co2 class f ≡ false = λ f h. rw (later_none plan.reference co2 positive f h) refl in
          let w : how_many (is_of_class plan speeds co2 class) last ≡ how_many (is_of_class plan speeds co2 class) (length co2) = sym (how_many_rest (is_of_class plan speeds co2 class) last (length co2 - last) none) ∙ ap (how_many (is_of_class plan speeds co2 class)) whole in
          let v : how_many (is_inside plan speeds co2 class) last ≡ how_many (is_inside plan speeds co2 class) (length co2) = sym (how_many_rest (is_inside plan speeds co2 class) last (length co2 - last) (λ f h. rw (none f h) refl)) ∙ ap (how_many (is_inside plan speeds co2 class)) whole in
          λ i. record { windows = w i; inside = v i }

-- ---- one turn of the loop over the windows
module _ (plan : Plan) (speeds co2 ends : List ℕ) (swept : SweptLanes plan speeds co2 ends) (f : ℕ) (counts : f < length ends) where
  pub record Turn : Type 0 where
    pub has : has_window plan.reference co2 f ≡ true
    pub end : get_or ends f 0 ≡ window_end plan.reference co2 f
    pub some : f < get_or ends f 0
    pub within : get_or ends f 0 ≤ length co2
    pub within_too : get_or ends f 0 ≤ length speeds
    pub small : length co2 < 2 ^ 16

  pub turn : Turn
  unfolding window_end
  turn =
      let has = first_have plan.reference co2 (plan_ranges plan swept.plan_is_in_range).reference_least f (omega (arith, swept.all)) in
      let w = window plan.reference co2 f has in
      let end = swept.ended f counts in
      record {
        has = has;
        end = end;
        some = omega (arith, w.from);
        within = omega (arith, w.within);
        within_too = omega (arith, w.within, swept.same_length);
        small = omega (arith, swept.same_length, swept.speeds_are_kept.few);
      }

  -- it reaches a reference of at least 1, so it weighs something
  turn_weighs : 0 < sum (take (get_or ends f 0 - f) (drop f co2))
  unfolding window_end
  turn_weighs =
      let t = turn in
      let w = window plan.reference co2 f t.has in
      rw (part_is f (get_or ends f 0) co2, t.end)
      (omega (arith, w.reaches, (plan_ranges plan swept.plan_is_in_range).reference_least))

  -- the seconds of the window can be judged
  pub turn_seconds : WindowSeconds plan (take (get_or ends f 0 - f) (drop f speeds)) (take (get_or ends f 0 - f) (drop f co2))
  turn_seconds =
      let t = turn in
      let n = part_length f (get_or ends f 0) co2 t.within in
      let kept = part_kept f (get_or ends f 0) speeds (omega arith) t.within_too swept.speeds_are_kept in
      record {
        judgeable = record { plan_is_in_range = swept.plan_is_in_range; lasts = omega arith; few = omega (arith, swept.same_length, swept.speeds_are_kept.few); moves = part_moves f (get_or ends f 0) speeds t.some t.within_too swept.each_moves; weighs = turn_weighs; light = omega (arith, part_light f (get_or ends f 0) co2 (omega arith), swept.masses_fit) };
        speeds_are_kept = kept;
      }

  -- and are judged as the definition says
  pub turn_figure : figure_of plan (sum (take (get_or ends f 0 - f) (drop f speeds))) (sum (take (get_or ends f 0 - f) (drop f co2))) (length (take (get_or ends f 0 - f) (drop f co2))) ≡ window_figure plan speeds co2 f
  unfolding window_figure window_end
  turn_figure = rw (part_is f (get_or ends f 0) speeds, part_is f (get_or ends f 0) co2, turn.end) refl

-- where its window lies in the lanes
pub starts_before : {plan : Plan} {speeds co2 ends : List ℕ} → SweptLanes plan speeds co2 ends → (f : ℕ) → f < length ends → f < get_or ends f 0
starts_before swept f counts = (turn _ _ _ _ swept f counts).some

pub ends_within : {plan : Plan} {speeds co2 ends : List ℕ} → SweptLanes plan speeds co2 ends → (f : ℕ) → f < length ends → get_or ends f 0 ≤ length co2
ends_within swept f counts = (turn _ _ _ _ swept f counts).within

pub ends_within_speeds : {plan : Plan} {speeds co2 ends : List ℕ} → SweptLanes plan speeds co2 ends → (f : ℕ) → f < length ends → get_or ends f 0 ≤ length speeds
ends_within_speeds swept f counts = (turn _ _ _ _ swept f counts).within_too
