-- A product of bounded numbers is bounded by the product of the bounds, as long as that is a whole number that an f64 holds. Assumes nothing.
use Prim.Native.Nat.{ℕ, ◌*◌, ◌^◌, ◌≤◌, ◌<◌}
use mathlib.Core.Path.{◌≡◌, refl, sym, ◌∙◌}
use mathlib.Core.Bool.{Bool, true, false, ◌&&◌, false≢true}
use native.Mathlib.Nat.{mul-one, zero-mul, mul-zero, mul-pos, mul-le-mul, mul-mul-mul_comm, le_of_eq}
use native.Mathlib.Omega.{arith}
use lib.Dec.{T, lit≤}
use lib.IntN.{ℤ}
use lib.Ieee.{Float, nan, inf, fin, binary64, mul, round, of_int, le, unlike, up, down}
use lib.Ieee.Exact.{HasValue, round_exact}
use lib.Ieee.Back.{round_whole}
use lib.Ieee.Order.{round_mono}
use lib.Ieee.Bits.{is_true}
use lib.Ieee.Fits.{up_pos, down_pos, and_i}
use Rattle.mass.specs.Mass.{zero_to, times}
use Rattle.mass.specs.Inside.{Bounded, bounded}
use Rattle.mass.proofs.Ranges.{no_size, through, zero_to_bounded}

-- a finite number with the sign s and the size a / c, which is at most top, and 0 where the sign is negative
bounded_value : (x : Float) (s : Bool) (a c top : ℕ) → 0 < c → (s ≡ true → a ≡ 0) → a ≤ top * c → HasValue x s a c → Bounded x top
bounded_value nan s a c top cp none small v = absurd v
bounded_value (inf t) s a c top cp none small v = absurd v
bounded_value (fin t m e) s a c top cp none small v =
    bounded
    (λ sign. no_size m (up e) (up_pos e) (no_size (m * up e) c cp (rw (v.1, none (sym v.0 ∙ sign)) (zero-mul (down e)))))
    (through (m * up e) (down e) a c top cp (le_of_eq v.1) small)

-- the two tests of a range
in_order : (x t : Float) → T (le (round binary64 false 0 1) x) → T (le x t) → zero_to x t ≡ true
unfolding zero_to of_int
in_order x t low high = is_true (le (round binary64 false 0 1) x && le x t) (and_i (le (round binary64 false 0 1) x) (le x t) low high)

-- a fraction that is not negative and at most top rounds to a number that is so
round_bounded : (s : Bool) (num den top : ℕ) → 0 < den → (s ≡ true → num ≡ 0) → num ≤ top * den → top ≤ 2 ^ 53 → Bounded (round binary64 s num den) top
round_bounded true num den top dp none small whole =
    bounded_value (round binary64 true num den) true num den top dp none small
    (round_exact binary64 true num den 0 0 dp (lit≤ tt) (lit≤ tt) (rw (none refl) (sym (zero-mul den))))
round_bounded false num den top dp none small whole =
    let most : Bounded (round binary64 false top 1) top =
    bounded_value (round binary64 false top 1) false top 1 top (lit≤ tt) (λ s. absurd (false≢true s)) (le_of_eq (sym (mul-one top))) (round_whole binary64 false top whole)
    in
    let low : T (le (round binary64 false 0 1) (round binary64 false num den)) = round_mono binary64 0 1 num den (lit≤ tt) dp (omega (arith, zero-mul den)) in
    let high : T (le (round binary64 false num den) (round binary64 false top 1)) = round_mono binary64 num den top 1 dp (lit≤ tt) (omega (arith, mul-one num)) in
    zero_to_bounded (round binary64 false num den) most (in_order (round binary64 false num den) (round binary64 false top 1) low high)

-- the size of a product of two fractions that are at most a and b
product_size : (x p y q a b : ℕ) → x ≤ a * p → y ≤ b * q → x * y ≤ a * b * (p * q)
product_size x p y q a b h k = rw (mul-mul-mul_comm a b p q) (mul-le-mul h k)

-- where one factor is 0, so is the product
no_product : (s t : Bool) (x y : ℕ) → (s ≡ true → x ≡ 0) → (t ≡ true → y ≡ 0) → unlike s t ≡ true → x * y ≡ 0
no_product true t x y p q h = rw (p refl) (zero-mul y)
no_product false true x y p q h = rw (q refl) (mul-zero x)
no_product false false x y p q h = absurd (false≢true h)

-- the size of a negative number is 0
no_size_up : (s : Bool) (m : ℕ) (e : ℤ) → (s ≡ true → m ≡ 0) → s ≡ true → m * up e ≡ 0
no_size_up s m e p h = rw (p h) (zero-mul (up e))

pub times_bounded : {x y : Float} {a b : ℕ} → Bounded x a → Bounded y b → a * b ≤ 2 ^ 53 → Bounded (times x y) (a * b)
unfolding mul
times_bounded {a = a} {b = b} (bounded {s = s} {m = m} {e = e} p small) (bounded {s = t} {m = n} {e = d} q slight) fine =
    round_bounded (unlike s t) (m * up e * (n * up d)) (down e * down d) (a * b) (mul-pos (down_pos e) (down_pos d))
    (no_product s t (m * up e) (n * up d) (no_size_up s m e p) (no_size_up t n d q))
    (product_size (m * up e) (down e) (n * up d) (down d) a b small slight)
    fine
