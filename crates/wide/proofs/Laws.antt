-- What a caller cites of two-word numbers: a value has one pair of words, and a bound on a value bounds its high word,
-- by which the room of `sum` is shown. Assumes nothing.
use Rattle.std.proofs.Common.{◌≡◌, ℕ, ◌*◌, ◌^◌, ◌<◌, ◌≤◌, T, ltb, lt_of_le_of_lt, mul-le-mul, arith, ltb→lt}
use Rattle.wide.specs.declared.Wide.{Wide}
use Rattle.wide.specs.Inside.{value}

-- equal values have equal words, where the low words are words
pub determined : (v w : Wide) → v.lo < 2 ^ 64 → w.lo < 2 ^ 64 → value v ≡ value w → v ≡ w
unfolding value
determined v w hv hw e =
    let hi : v.hi ≡ w.hi = omega arith in
    let lo : v.lo ≡ w.lo = omega arith in
    λ i. record { hi = hi i; lo = lo i }

-- a value below k times 2 ^ 64 has a high word below k
pub high_below : (w : Wide) {n : ℕ} (k : ℕ) → value w ≡ n → n < k * 2 ^ 64 → w.hi < k
unfolding value
high_below w k e h = omega arith

-- the high word of a product of two numbers with bounds
pub product_high : (w : Wide) {a b : ℕ} (m n k : ℕ) → value w ≡ a * b → a ≤ m → b ≤ n → T (ltb (m * n) (k * 2 ^ 64)) → w.hi < k
product_high w m n k e ha hb t = high_below w k e (lt_of_le_of_lt (mul-le-mul ha hb) (ltb→lt (m * n) (k * 2 ^ 64) t))
