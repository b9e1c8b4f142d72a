-- What lies between 0 and a bounded number is bounded as that is. Assumes nothing.
use Prim.Native.Nat.{ℕ, zero, suc, ◌*◌, ◌≤◌, ◌<◌}
use mathlib.Core.Path.{◌≡◌, refl, subst}
use mathlib.Core.Bool.{Bool, true, false, ◌&&◌, ◌||◌, not, false≢true}
use native.Mathlib.Nat.{mul-one, mul_right_comm, mul-le-mul_right, le_of_mul-le-mul_right, le_trans, zero-mul, suc-mul}
use native.Mathlib.Omega.{arith}
use lib.Dec.{T, eqb, ltb}
use lib.IntN.{ℤ}
use lib.Ieee.{Float, nan, inf, fin, of_int, below, level, le, lt, eq, up, down, is_nan}
use lib.Ieee.Fits.{up_pos, down_pos}
use borrow.Author.Tests.{ltb-true, eqb-true}
use Rattle.base.proofs.Tests.{and_left, and_right}
use Rattle.mass.specs.Mass.{number, zero_to, above_zero_to}
use Rattle.mass.specs.Inside.{Bounded, bounded}

-- ---- tests that hold, taken apart
or_elim : {X : Type 0} (p q : Bool) → p || q ≡ true → (p ≡ true → X) → (q ≡ true → X) → X
or_elim true q h f g = f refl
or_elim false q h f g = g h

weaken : (p q r : Bool) → p && r ≡ true → (p || q) && r ≡ true
weaken true q r h = h
weaken false q r h = absurd (false≢true h)

-- ---- sizes
-- of two numbers in order, the first not negative, the sizes are in order
size_le : (t : Bool) (a b : ℕ) → below false a t b || level false a t b ≡ true → a ≤ b
size_le false a b h =
    or_elim (ltb a b) (eqb a b && true) h
    (λ p. let q : a < b = ltb-true a b p in omega arith)
    (λ p. let q : a ≡ b = eqb-true a b (and_left (eqb a b) true p) in omega arith)
size_le true a b h = let q : a ≡ b = eqb-true a b (and_left (eqb a b) (eqb a 0) h) in omega arith

-- m * u is 0 only where m is, for a u above 0
pub no_size : (m u : ℕ) → 0 < u → m * u ≡ 0 → m ≡ 0
no_size zero u h q = refl
no_size (suc m) u h q = omega (arith, suc-mul m u)

-- nothing negative is at least 0
no_sign : (m : ℕ) (e : ℤ) → le (number 0) (fin true m e) ≡ true → m ≡ 0
unfolding le lt eq of_int
no_sign m e h =
    let q : 0 * down e ≡ m * up e * 1 = eqb-true (0 * down e) (m * up e * 1) (and_left (eqb (0 * down e) (m * up e * 1)) (eqb (0 * down e) 0) h) in
    no_size m (up e) (up_pos e) (omega (arith, zero-mul (down e), mul-one (m * up e)))

-- x / p at most y / q, and that at most top: x / p is at most top
pub through : (x p y q top : ℕ) → 0 < q → x * q ≤ y * p → y ≤ top * q → x ≤ top * p
through x p y q top h a b =
    le_of_mul-le-mul_right (le_trans a (subst (λ (n : ℕ). y * p ≤ n) (mul_right_comm top q p) (mul-le-mul_right p b))) h

-- what is from 0 to a bounded number is bounded
pub zero_to_bounded : (x : Float) {t : Float} {top : ℕ} → Bounded t top → zero_to x t ≡ true → Bounded x top
unfolding zero_to le lt eq of_int
zero_to_bounded nan (bounded p q) h = absurd (false≢true h)
zero_to_bounded (inf true) (bounded p q) h = absurd (false≢true h)
zero_to_bounded (inf false) (bounded p q) h = absurd (false≢true h)
zero_to_bounded (fin true m e) {top = top} (bounded {s = u} {m = n} {e = d} p q) h =
    let none : m ≡ 0 = no_sign m e (and_left (le (number 0) (fin true m e)) (le (fin true m e) (fin u n d)) h) in
    let small : m * up e ≤ top * down e = rw (none, zero-mul (up e)) (omega arith) in
    bounded (λ s. none) small
zero_to_bounded (fin false m e) {top = top} (bounded {s = u} {m = n} {e = d} p q) h =
    bounded (λ s. absurd (false≢true s))
    (through (m * up e) (down e) (n * up d) (down d) top (down_pos d)
    (size_le u (m * up e * down d) (n * up d * down e) (and_right (le (number 0) (fin false m e)) (le (fin false m e) (fin u n d)) h))
    q)

-- and so is what is above 0 and at most that
pub above_zero_to_bounded : (x : Float) {t : Float} {top : ℕ} → Bounded t top → above_zero_to x t ≡ true → Bounded x top
unfolding zero_to above_zero_to le
above_zero_to_bounded x {t} b h = zero_to_bounded x b (weaken (lt (number 0) x) (eq (number 0) x) (le x t) h)

-- a bounded number is no NaN
pub bounded_no_nan : {x : Float} {top : ℕ} → Bounded x top → T (not (is_nan x))
unfolding is_nan
bounded_no_nan (bounded p q) = tt
