-- The whole part of a number from 1 up, from its bits. With n the number in units of the format's smallest value, 2 ^ -1074, the bits keep its 53 leading
-- digits and say how many, k, were dropped: the exponent's field is k + 1. Assumes nothing.
use Prim.Native.Nat.{ℕ, suc, ◌+◌, ◌-◌, ◌*◌, ◌/◌, ◌%◌, ◌^◌, ◌≤◌, ◌<◌, suc-le-suc}
use mathlib.Core.Path.{◌≡◌, refl, sym, ◌∙◌, ap}
use mathlib.Core.Bool.{true, false, true≢false}
use native.Mathlib.Nat.{le_trans, lt_of_lt_of_le, lt_irrefl, mul_comm, suc-mul, pow-suc, mul_right_comm, mul-le-mul_right, mul-lt-mul_of_pos_right, le-div_iff_mul-le, div-lt_iff_lt-mul, div-div-eq-div-mul, mul-div-mul_right, div-eq_of_lt, zero-mul, zero-div, zero-add}
use native.Mathlib.Numerals.{add-one}
use native.Mathlib.Omega.{arith}
use lib.Pow.{pow_pos, pow_mono, pow-add, shr-shr, high, low}
use lib.Dec.{lit≤}
use lib.IntN.{ℤ, pos}
use lib.Ieee.{Float, fin, binary64, size, lt, to_bits, up, down}
use lib.Ieee.Digits.{size-lt, size_reaches, size-le}
use lib.Ieee.Fits.{kept-lt, down_pos}
use borrow.Author.Tests.{ltb-true, ltb-false, lt-ltb}
use Rattle.mass.specs.Mass.{whole_part}
use Rattle.mass.specs.Inside.{Bounded, bounded}

-- a number from 2 ^ j up has more than j digits
more_digits : (n j : ℕ) → 2 ^ j ≤ n → j < size n
more_digits n j h =
    let no : size n ≤ j → ⊥ = λ few. lt_irrefl n (lt_of_lt_of_le (size-lt n) (le_trans (pow_mono few) h)) in
    omega arith

-- the bits of n, of which p + 1 leading digits are kept, without the sign
abbrev bits_of : ℕ → ℕ → ℕ
bits_of p n = (size n - suc p) * 2 ^ p + n / 2 ^ (size n - suc p)

-- k times b and q more, where q is from b to below 2 b
module _ (k b q : ℕ) (from : b ≤ q) (below : q < b * 2) where
  leading : k * b + q ≡ (k + 1) * b + (q - b)
  leading = rw (add-one, suc-mul) (omega arith)

  rest : q - b < b
  rest = omega arith

module _ (p n : ℕ) (normal : suc p ≤ size n) where
  kept_ge : 2 ^ p ≤ n / 2 ^ (size n - suc p)
  kept_ge = (le-div_iff_mul-le (pow_pos (size n - suc p))).1 (rw (pow-add 2 p (size n - suc p)) at (size_reaches n (p + (size n - suc p)) (omega arith)))

  kept_below : n / 2 ^ (size n - suc p) < 2 ^ p * 2
  kept_below = rw (pow-suc 2 p) at (kept-lt (suc p) n)

  -- the exponent's field
  pub exponent_field : bits_of p n / 2 ^ p ≡ size n - suc p + 1
  exponent_field =
      ap (λ (x : ℕ). x / 2 ^ p) (leading (size n - suc p) (2 ^ p) (n / 2 ^ (size n - suc p)) kept_ge kept_below)
      ∙ high (size n - suc p + 1) p (rest (size n - suc p) (2 ^ p) (n / 2 ^ (size n - suc p)) kept_ge kept_below)

  -- the digits, with the leading one put back
  pub digits_field : bits_of p n % 2 ^ p + 2 ^ p ≡ n / 2 ^ (size n - suc p)
  digits_field =
      let e : bits_of p n % 2 ^ p ≡ n / 2 ^ (size n - suc p) - 2 ^ p =
      ap (λ (x : ℕ). x % 2 ^ p) (leading (size n - suc p) (2 ^ p) (n / 2 ^ (size n - suc p)) kept_ge kept_below)
      ∙ low (size n - suc p + 1) p (rest (size n - suc p) (2 ^ p) (n / 2 ^ (size n - suc p)) kept_ge kept_below)
      in
      omega (arith, kept_ge)

-- ---- n is a / d in units of 2 ^ -l
module _ (l a d : ℕ) (dp : 0 < d) where
  units_ge : d ≤ a → 2 ^ l ≤ a * 2 ^ l / d
  units_ge h = (le-div_iff_mul-le dp).1 (rw (mul_comm (2 ^ l) d) (mul-le-mul_right (2 ^ l) h))

  units_below : (p top : ℕ) → a ≤ top * d → top < 2 ^ p → a * 2 ^ l / d < 2 ^ (p + l)
  units_below p top h less =
      let small : top * d < 2 ^ p * d = mul-lt-mul_of_pos_right less dp in
      let under : a < 2 ^ p * d = omega arith in
      (div-lt_iff_lt-mul dp).1 (rw (pow-add 2 p l, mul_right_comm (2 ^ p) (2 ^ l) d) (mul-lt-mul_of_pos_right under (pow_pos l)))

  units_whole : a * 2 ^ l / d / 2 ^ l ≡ a / d
  units_whole = rw (div-div-eq-div-mul (a * 2 ^ l) d (2 ^ l)) (mul-div-mul_right a d (pow_pos l))

-- n has more than l digits and at most p + 1 + l, so its bits shifted down by what the exponent's field lacks to l + 1 are its whole part
module _ (p l n : ℕ) (many : l < size n) (few : size n ≤ suc p + l) (room : p ≤ l) where
  field : bits_of p n / 2 ^ p ≡ size n - suc p + 1
  field = exponent_field p n (omega arith)

  pub shift_least : bits_of p n / 2 ^ p ≤ l + 1
  shift_least = omega (arith, field)

  pub shift_most : l + 1 - bits_of p n / 2 ^ p ≤ p
  shift_most = omega (arith, field)

  amount : size n - suc p + (l + 1 - bits_of p n / 2 ^ p) ≡ l
  amount = omega (arith, field)

  pub shifted : (bits_of p n % 2 ^ p + 2 ^ p) / 2 ^ (l + 1 - bits_of p n / 2 ^ p) ≡ n / 2 ^ l
  shifted =
      ap (λ (x : ℕ). x / 2 ^ (l + 1 - bits_of p n / 2 ^ p)) (digits_field p n (omega arith))
      ∙ shr-shr n (size n - suc p) (l + 1 - bits_of p n / 2 ^ p)
      ∙ ap (λ (x : ℕ). n / 2 ^ x) amount

-- what the code reads off the bits b of a number whose whole part is w
pub record WholeFromBits (b w : ℕ) : Type 0 where
  pub least : b / 2 ^ 52 ≤ 1075
  pub most : 1075 - b / 2 ^ 52 < 64
  pub whole : (b % 2 ^ 52 + 2 ^ 52) / 2 ^ (1075 - b / 2 ^ 52) ≡ w

-- a / d is from 1 to below 2 ^ 53
fraction_from_bits : (a d top : ℕ) → 0 < d → d ≤ a → a ≤ top * d → top < 2 ^ 53 → WholeFromBits (bits_of 52 (a * 2 ^ 1074 / d)) (a / d)
fraction_from_bits a d top dp one small less =
    let many : 1074 < size (a * 2 ^ 1074 / d) = more_digits (a * 2 ^ 1074 / d) 1074 (units_ge 1074 a d dp one) in
    let few : size (a * 2 ^ 1074 / d) ≤ 1127 = size-le (a * 2 ^ 1074 / d) 1127 (units_below 1074 a d dp 53 top small less) in
    let most : 1075 - bits_of 52 (a * 2 ^ 1074 / d) / 2 ^ 52 ≤ 52 = shift_most 52 1074 (a * 2 ^ 1074 / d) many few (lit≤ tt) in
    record {
      least = shift_least 52 1074 (a * 2 ^ 1074 / d) many few (lit≤ tt);
      most = le_trans (suc-le-suc most) (lit≤ tt);
      whole = shifted 52 1074 (a * 2 ^ 1074 / d) many few (lit≤ tt) ∙ units_whole 1074 a d dp;
    }

-- a number with the sign set is below 1
signed-below_one : (m : ℕ) (e : ℤ) → lt (fin true m e) (fin false 1 (pos 0)) ≡ true
unfolding lt
signed-below_one m e =
    let above : 0 < m * up e * 1 + 1 * down e = omega (arith, down_pos e) in
    lt-ltb 0 (m * up e * 1 + 1 * down e) above

-- below 1 there is no whole part
pub under_one : {x : Float} {top : ℕ} → Bounded x top → lt x (fin false 1 (pos 0)) ≡ true → whole_part x ≡ 0
unfolding lt whole_part
under_one (bounded {s = false} {m = m} {e = e} p small) h =
    let less : m * up e * 1 < 1 * down e = ltb-true (m * up e * 1) (1 * down e) h in
    div-eq_of_lt (omega arith)
under_one (bounded {s = true} {m = m} {e = e} p small) h = rw (p refl, zero-mul (up e)) (zero-div (down e))

-- from 1 up the whole part is what the code reads off the bits
pub from_one : {x : Float} {top : ℕ} → Bounded x top → top < 2 ^ 53 → lt x (fin false 1 (pos 0)) ≡ false → WholeFromBits (to_bits binary64 x) (whole_part x)
unfolding lt whole_part to_bits
from_one {top = top} (bounded {s = false} {m = m} {e = e} p small) less h =
    let large : 1 * down e ≤ m * up e * 1 = ltb-false (m * up e * 1) (1 * down e) h in
    rw zero-add (fraction_from_bits (m * up e) (down e) top (down_pos e) (omega arith) small less)
from_one (bounded {s = true} {m = m} {e = e} p small) less h = absurd (true≢false (sym (signed-below_one m e) ∙ h))
