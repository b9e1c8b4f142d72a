-- Exact fractions, for what is compared and never rounded. Every fraction here is made of whole numbers by the operations below and
-- divided only by numbers above zero, so its denominator is above zero.
use Rattle.std.specs.Prelude.{ℕ, ◌*◌, ◌≡◌, Bool, true, not, ℤ, pos, ◌+ℤ◌, ◌-ℤ◌, ◌*ℤ◌}
use Rattle.std.specs.Int.Signed.{le_z}

pub record Fraction : Type 0 where
  pub numerator : ℤ
  pub denominator : ℕ

-- a numerator over a denominator
abbrev pub fraction : ℤ → ℕ → Fraction
fraction a b = record { numerator = a; denominator = b }

unfoldable pub whole : ℕ → Fraction
whole n = fraction (pos n) 1

-- a/b + c/d = (ad + cb) / bd, and so the difference
unfoldable pub plus : Fraction → Fraction → Fraction
plus x y =
    fraction (x.numerator *ℤ pos y.denominator +ℤ y.numerator *ℤ pos x.denominator) (x.denominator * y.denominator)

unfoldable pub minus : Fraction → Fraction → Fraction
minus x y =
    fraction (x.numerator *ℤ pos y.denominator -ℤ y.numerator *ℤ pos x.denominator) (x.denominator * y.denominator)

-- a/b times c/d = ac / bd
unfoldable pub times : Fraction → Fraction → Fraction
times x y = fraction (x.numerator *ℤ y.numerator) (x.denominator * y.denominator)

-- a/b divided by n = a / bn
unfoldable pub over : Fraction → ℕ → Fraction
over x n = fraction x.numerator (x.denominator * n)

-- by cross-multiplying: a/b is at most c/d where ad is at most cb
unfoldable pub at_most : Fraction → Fraction → Bool
at_most x y = le_z (x.numerator *ℤ pos y.denominator) (y.numerator *ℤ pos x.denominator)

unfoldable pub below : Fraction → Fraction → Bool
below x y = not (at_most y x)

-- a fraction is a whole number: each is at most the other
abbrev pub IsNumber : Fraction → ℕ → Type 0
IsNumber x n = (at_most x (whole n) ≡ true) × (at_most (whole n) x ≡ true)
