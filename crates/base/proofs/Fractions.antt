-- Fractions, each as a difference over a denominator: (a - b) / d. With these laws a comparison of fractions becomes one of naturals. And `at_most` is
-- an order: every fraction is at most itself, of two one is at most the other, what is at most what is at most a third is at most it, and two
-- that are at most each other are one number. Assumes nothing.
use Prim.Native.Nat.{ℕ, suc, ◌+◌, ◌*◌, ◌≤◌, ◌<◌}
use mathlib.Core.Path.{◌≡◌, refl, sym, ◌∙◌, ap, ap₂}
use mathlib.Core.Bool.{Bool, true, false}
use mathlib.Core.Logic.{◌⊎◌, inl, inr}
use native.Mathlib.Nat.{add-mul, mul-zero, mul_right_comm, mul-le-mul_right, le_of_mul-le-mul_right, le_antisymm, le_of_lt}
use native.Mathlib.Omega.{arith}
use borrow.Author.Tests.{le-leb, leb-true, leb-false}
use lib.Dec.{leb}
use lib.IntN.{ℤ, pos, negsuc, sub_ℕ, ◌+ℤ◌, ◌-ℤ◌, ◌*ℤ◌}
use lib.Signed.{le_z}
use Rattle.base.specs.Fraction.{Fraction, fraction, whole, plus, minus, times, over, at_most}
use Rattle.base.proofs.Integers.{pos_is, negsuc_is, sub_same, sub_plus, sub_minus, sub_times, sub_order}

-- a fraction is (a - b) / d
pub record Is (x : Fraction) (a b d : ℕ) : Type 0 where
  pub above : x.numerator ≡ sub_ℕ a b
  pub under : x.denominator ≡ d

-- the same difference, written otherwise
pub is_same : {x : Fraction} {a b d : ℕ} (a' b' d' : ℕ) → Is x a b d → a + b' ≡ a' + b → d ≡ d' → Is x a' b' d'
is_same {x} {a} {b} {d} a' b' d' is e k = record { above = is.above ∙ sub_same a b a' b' e; under = is.under ∙ k }

-- so written, it is the fraction itself
pub is_written : {x : Fraction} {a b d : ℕ} → Is x a b d → fraction (sub_ℕ a b) d ≡ x
is_written is = λ i. record { numerator = sym is.above i; denominator = sym is.under i }

pub whole_is : (n : ℕ) → Is (whole n) n 0 1
unfolding whole
whole_is n = record { above = pos_is n n 0 (omega arith); under = refl }

-- a difference times a natural
scaled : (a b n : ℕ) → sub_ℕ a b *ℤ pos n ≡ sub_ℕ (a * n) (b * n)
scaled a b n = ap (λ (z : ℤ). sub_ℕ a b *ℤ z) (pos_is n n 0 (omega arith)) ∙ sub_times a b n 0 ∙ sub_same (a * n + b * 0) (a * 0 + b * n) (a * n) (b * n) (simp (mul-zero) (omega arith))

module _ {x y : Fraction} {a b d a' b' d' : ℕ} (p : Is x a b d) (q : Is y a' b' d') where
  crossed : x.numerator *ℤ pos y.denominator ≡ sub_ℕ (a * d') (b * d')
  crossed = rw (p.above, q.under) (scaled a b d')

  back : y.numerator *ℤ pos x.denominator ≡ sub_ℕ (a' * d) (b' * d)
  back = rw (q.above, p.under) (scaled a' b' d)

  pub plus_is : Is (plus x y) (a * d' + a' * d) (b * d' + b' * d) (d * d')
  unfolding plus
  plus_is =
      record {
        above = ap₂ (λ (y z : ℤ). y +ℤ z) crossed back ∙ sub_plus (a * d') (b * d') (a' * d) (b' * d);
        under = ap₂ (λ (m n : ℕ). m * n) p.under q.under;
      }

  pub minus_is : Is (minus x y) (a * d' + b' * d) (b * d' + a' * d) (d * d')
  unfolding minus
  minus_is =
      record {
        above = ap₂ (λ (y z : ℤ). y -ℤ z) crossed back ∙ sub_minus (a * d') (b * d') (a' * d) (b' * d);
        under = ap₂ (λ (m n : ℕ). m * n) p.under q.under;
      }

  pub times_is : Is (times x y) (a * a' + b * b') (a * b' + b * a') (d * d')
  unfolding times
  times_is =
      record {
        above = ap₂ (λ (y z : ℤ). y *ℤ z) p.above q.above ∙ sub_times a b a' b';
        under = ap₂ (λ (m n : ℕ). m * n) p.under q.under;
      }

  pub at_most_is : at_most x y ≡ leb (a * d' + b' * d) (a' * d + b * d')
  unfolding at_most
  at_most_is = ap₂ le_z crossed back ∙ sub_order (a * d') (b * d') (a' * d) (b' * d)

pub over_is : {x : Fraction} {a b d : ℕ} (n : ℕ) → Is x a b d → Is (over x n) a b (d * n)
unfolding over
over_is n is = record { above = is.above; under = ap (λ (k : ℕ). k * n) is.under }

-- whole numbers are ordered as numbers
pub wholes : (m n : ℕ) → at_most (whole m) (whole n) ≡ leb m n
wholes m n =
    let left : m * 1 + 0 * 1 ≡ m = omega arith in
    let right : n * 1 + 0 * 1 ≡ n = omega arith in
    at_most_is (whole_is m) (whole_is n) ∙ ap₂ leb left right

-- ---- an order

-- multiplied up by the third denominator and by the first, the middle falls out
onward_in_naturals : (a b d a' b' d' a'' b'' d'' : ℕ) → 0 < d' → a * d' + b' * d ≤ a' * d + b * d' → a' * d'' + b'' * d' ≤ a'' * d' + b' * d'' → a * d'' + b'' * d ≤ a'' * d + b * d''
onward_in_naturals a b d a' b' d' a'' b'' d'' h first second =
    let one : a * d' * d'' + b' * d * d'' ≤ a' * d * d'' + b * d' * d'' = rw (sym (add-mul (a * d') (b' * d) d''), sym (add-mul (a' * d) (b * d') d'')) (mul-le-mul_right d'' first) in
    let two : a' * d'' * d + b'' * d' * d ≤ a'' * d' * d + b' * d'' * d = rw (sym (add-mul (a' * d'') (b'' * d') d), sym (add-mul (a'' * d') (b' * d'') d)) (mul-le-mul_right d second) in
    let both : (a * d'' + b'' * d) * d' ≤ (a'' * d + b * d'') * d' = rw (add-mul (a * d'') (b'' * d) d', add-mul (a'' * d) (b * d'') d') (omega (arith, mul_right_comm a d'' d', mul_right_comm b'' d d', mul_right_comm a'' d d', mul_right_comm b d'' d', mul_right_comm a' d d'', mul_right_comm b' d d'')) in
    le_of_mul-le-mul_right both h

-- every integer is a difference, so every fraction is one over its denominator
record Split (z : ℤ) : Type 0 where
  up : ℕ
  down : ℕ
  same : z ≡ sub_ℕ up down

split : (z : ℤ) → Split z
split (pos n) = record { up = n; down = 0; same = pos_is n n 0 (omega arith) }
split (negsuc n) = record { up = 0; down = suc n; same = negsuc_is n 0 (suc n) (omega arith) }

-- what a fraction has and lacks
pub has : Fraction → ℕ
has x = (split x.numerator).up

pub lacks : Fraction → ℕ
lacks x = (split x.numerator).down

pub as_difference : (x : Fraction) → Is x (has x) (lacks x) x.denominator
unfolding has lacks
as_difference x = record { above = (split x.numerator).same; under = refl }

pub itself : (x : Fraction) → at_most x x ≡ true
itself x =
    let alike : has x * x.denominator + lacks x * x.denominator ≤ has x * x.denominator + lacks x * x.denominator = omega arith in
    at_most_is (as_difference x) (as_difference x) ∙ le-leb _ _ alike

module _ (x y : Fraction) where
  abbrev left : ℕ
  left = has x * y.denominator + lacks y * x.denominator

  abbrev right : ℕ
  right = has y * x.denominator + lacks x * y.denominator

  forth : at_most x y ≡ leb left right
  forth = at_most_is (as_difference x) (as_difference y)

  other : at_most y x ≡ leb right left
  other = at_most_is (as_difference y) (as_difference x)

  pub either : (at_most x y ≡ true) ⊎ (at_most y x ≡ true)
  either = go (leb left right) refl
    where
      go : (t : Bool) → leb left right ≡ t → (at_most x y ≡ true) ⊎ (at_most y x ≡ true)
      go true p = inl (forth ∙ p)
      go false p = inr (other ∙ le-leb right left (le_of_lt (leb-false left right p)))

  -- the same number: the products across are equal
  pub one_number : at_most x y ≡ true → at_most y x ≡ true → x.numerator *ℤ pos y.denominator ≡ y.numerator *ℤ pos x.denominator
  one_number p q =
      let up : left ≤ right = leb-true left right (sym forth ∙ p) in
      let down : right ≤ left = leb-true right left (sym other ∙ q) in
      crossed (as_difference x) (as_difference y) ∙ sub_same (has x * y.denominator) (lacks x * y.denominator) (has y * x.denominator) (lacks y * x.denominator) (le_antisymm up down) ∙ sym (back (as_difference x) (as_difference y))

pub onward : (x y z : Fraction) → 0 < y.denominator → at_most x y ≡ true → at_most y z ≡ true → at_most x z ≡ true
onward x y z h p q =
    let first : left x y ≤ right x y = leb-true (left x y) (right x y) (sym (forth x y) ∙ p) in
    let second : left y z ≤ right y z = leb-true (left y z) (right y z) (sym (forth y z) ∙ q) in
    forth x z ∙ le-leb (left x z) (right x z) (onward_in_naturals (has x) (lacks x) x.denominator (has y) (lacks y) y.denominator (has z) (lacks z) z.denominator h first second)
