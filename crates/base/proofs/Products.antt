-- Bounds of products of two variables, which `omega` takes as unknowns. Assumes nothing.
use Prim.Native.Nat.{ℕ, ◌*◌, ◌≤◌}
use native.Mathlib.Nat.{mul-le-mul, le_trans}
use lib.Dec.{T, leb, leb→le}

-- a bound of each factor gives one of the product: cited with numerals, the last argument is `tt`
pub product_at_most : {a b m n : ℕ} (k : ℕ) → a ≤ m → b ≤ n → T (leb (m * n) k) → a * b ≤ k
product_at_most {a} {b} {m} {n} k p q t = le_trans (mul-le-mul p q) (leb→le (m * n) k t)
