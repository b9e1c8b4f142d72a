-- Values put into a lane from a place on: through a part that is lent, and one behind the other. Assumes nothing.
use Prim.Native.Nat.{ℕ, ◌+◌, ◌-◌, ◌≤◌}
use mathlib.Core.Path.{◌≡◌, refl, sym, ◌∙◌, ap, ap₂}
use mathlib.Core.List.{List, ◌++◌, append_assoc, append-nil}
use native.Mathlib.Omega.{arith}
use lib.ListN.{length, take, drop, length-append, length-drop, drop_of_length-le}
use lib.Seq.{take_at, drop-drop, drop-append-add, take_all}
use Rattle.base.specs.Words.{with_front}

-- a lane with values put in from a place on, the rest unchanged
abbrev pub placed : ℕ → List ℕ → List ℕ → List ℕ
placed from values lane = take from lane ++ (values ++ drop (from + length values) lane)

-- a lane's part from a place on, as a call sees it, and the lane with another part in its place
abbrev pub part_from : ℕ → List ℕ → List ℕ
part_from from lane = take (length lane - from) (drop from lane)

abbrev pub with_part : ℕ → List ℕ → List ℕ → List ℕ
with_part from part lane = take from lane ++ (part ++ drop (length lane - from) (drop from lane))

-- behind what was put in before
pub placed_next : (front values lane : List ℕ) (a : ℕ) → length front ≡ a → placed a values (front ++ drop a lane) ≡ (front ++ values) ++ drop (a + length values) lane
placed_next front values lane a long =
    ap₂ (λ (f r : List ℕ). f ++ (values ++ r)) (take_at front (drop a lane) a long) behind ∙ sym (append_assoc front values (drop (a + length values) lane))
  where
    behind : drop (a + length values) (front ++ drop a lane) ≡ drop (a + length values) lane
    behind = rw (sym long) (drop-append-add front (drop (length front) lane) (length values) ∙ drop-drop (length values) (length front) lane)

module _ (lane : List ℕ) (from : ℕ) where
  part_is : take (length lane - from) (drop from lane) ≡ drop from lane
  part_is = take_all (length lane - from) (drop from lane) (omega (arith, length-drop from lane))

  pub part_room : (k : ℕ) → from + k ≤ length lane → k ≤ length (part_from from lane)
  part_room k h = rw part_is (omega (arith, length-drop from lane))

  -- what a call leaves of the part, put back
  pub part_back : (values : List ℕ) {part : List ℕ} → part ≡ with_front values (part_from from lane) → with_part from part lane ≡ placed from values lane
  part_back values {part} is = ap (λ (l : List ℕ). take from lane ++ l) (nothing_behind ∙ is ∙ ap (λ (l : List ℕ). values ++ l) rest)
    where
      nothing_behind : part ++ drop (length lane - from) (drop from lane) ≡ part
      nothing_behind = rw (drop_of_length-le (drop from lane) {i = length lane - from} (omega (arith, length-drop from lane))) (append-nil part)

      rest : drop (length values) (take (length lane - from) (drop from lane)) ≡ drop (from + length values) lane
      rest = rw part_is (drop-drop (length values) from lane)

-- a lane whose front was filled, and values put in right behind
module _ (front lane : List ℕ) {filled : List ℕ} (is : filled ≡ with_front front lane) where
  pub filled_long : length front ≤ length lane → length filled ≡ length lane
  filled_long h = ap length is ∙ length-append front (drop (length front) lane) ∙ rest
    where
      rest : length front + length (drop (length front) lane) ≡ length lane
      rest = omega (arith, length-drop (length front) lane)

  pub filled_next : {a : ℕ} (values : List ℕ) {next : List ℕ} → a ≡ length front → next ≡ placed a values filled → next ≡ with_front (front ++ values) lane
  filled_next {a} values at put =
      put ∙ rw (is, at, length-append) (placed_next front values lane (length front) refl)
