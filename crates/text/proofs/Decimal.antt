-- Laws of `decimal`: one digit, or the tenth's digits and one more; its length; and what is read back from it is the number. Assumes nothing.
use Prim.Native.Nat.{ℕ, zero, suc, ◌+◌, ◌*◌, ◌/◌, ◌%◌, ◌^◌, ◌<◌, ◌≤◌}
use mathlib.Core.Path.{◌≡◌, refl, sym, ◌∙◌, ap}
use mathlib.Core.Bool.{Bool, true, false}
use mathlib.Core.List.{List, [], ◌∷◌, ◌++◌}
use Rattle.std.specs.Prelude.{max}
use native.Mathlib.Nat.{pow-suc, mod-eq_of_lt}
use native.Mathlib.Omega.{arith}
use lib.Dec.{ltb}
use lib.ListN.{length, length-append}
use borrow.Author.Tests.{lt-ltb, le-ltb, ltb-true, ltb-false}
use Rattle.base.specs.Words.{pick}
use Rattle.text.specs.Text.{digit, decimal_up_to, decimal}
use Rattle.text.specs.Inside.{word_digits}
use Rattle.text.proofs.Digits.{digit_back, read_on, read, read_more}

-- any bound that is at least the number gives the same digits
enough : (j k n : ℕ) → n ≤ j → n ≤ k → decimal_up_to j n ≡ decimal_up_to k n
unfolding decimal_up_to
enough zero zero n p q = refl
enough zero (suc k) n p q = rw (lt-ltb n 10 (omega arith)) refl
enough (suc j) zero n p q = rw (lt-ltb n 10 (omega arith)) refl
enough (suc j) (suc k) n p q =
    ap (λ (front : List ℕ). pick (ltb n 10) (digit n ∷ []) (front ++ (digit (n % 10) ∷ []))) (enough j k (n / 10) (omega arith) (omega arith))

-- a number below ten is one digit
pub decimal_one : (n : ℕ) → n < 10 → decimal n ≡ digit n ∷ []
unfolding decimal decimal_up_to
decimal_one zero h = refl
decimal_one (suc n) h = rw (lt-ltb (suc n) 10 h) refl

-- any other has the digits of its tenth, and one more
pub decimal_more : (n : ℕ) → 10 ≤ n → decimal n ≡ decimal (n / 10) ++ (digit (n % 10) ∷ [])
unfolding decimal decimal_up_to
decimal_more zero h = absurd (omega arith)
decimal_more (suc n) h =
    rw (le-ltb (suc n) 10 h)
    (ap (λ (front : List ℕ). front ++ (digit (suc n % 10) ∷ [])) (enough n (suc n / 10) (suc n / 10) (omega arith) (omega arith)))

-- what holds below ten, and of a number if it holds of its tenth, holds of every number
pub by_tens {ℓ} : (P : ℕ → Type ℓ) → ((n : ℕ) → n < 10 → P n) → ((n : ℕ) → 10 ≤ n → P (n / 10) → P n) → (n : ℕ) → P n
by_tens P one more n = go n n (omega arith)
  where
    go : (k n : ℕ) → n ≤ k → P n
    go zero n h = one n (omega arith)
    go (suc k) n h = way (ltb n 10) refl (go k (n / 10) (omega arith))
      where
        way : (t : Bool) → ltb n 10 ≡ t → P (n / 10) → P n
        way true q p = one n (ltb-true n 10 q)
        way false q p = more n (ltb-false n 10 q) p

-- the decimal text of a number, read back, is the number
pub decimal_back : (n : ℕ) → read 10 (decimal n) ≡ n
unfolding read_on
decimal_back =
    by_tens (λ n. read 10 (decimal n) ≡ n)
    (λ n h. rw (decimal_one n h, digit_back n (omega arith)) (omega arith))
    (λ n h p. rw (decimal_more n h, read_more 10 0 (decimal (n / 10)) (n % 10) (omega arith), p) (omega arith))

-- so two different numbers never print alike
pub decimal_differs : (m n : ℕ) → decimal m ≡ decimal n → m ≡ n
decimal_differs m n e = sym (decimal_back m) ∙ ap (read 10) e ∙ decimal_back n

-- lengths
pub length_one : (n : ℕ) → n < 10 → length (decimal n) ≡ 1
length_one n h = rw (decimal_one n h) refl

pub length_more : (n : ℕ) → 10 ≤ n → length (decimal n) ≡ length (decimal (n / 10)) + 1
length_more n h = rw (decimal_more n h, length-append) refl

-- a number below 10 ^ (k + 1) has at most k + 1 digits
pub length_most : (k n : ℕ) → n < 10 ^ suc k → length (decimal n) ≤ suc k
length_most zero n h = omega (arith, length_one n h)
length_most (suc k) n h = way (ltb n 10) refl (length_most k (n / 10) (omega (arith, pow-suc 10 (suc k))))
  where
    way : (t : Bool) → ltb n 10 ≡ t → length (decimal (n / 10)) ≤ suc k → length (decimal n) ≤ suc (suc k)
    way true q less = omega (arith, length_one n (ltb-true n 10 q))
    way false q less = omega (arith, length_more n (ltb-false n 10 q))

-- a number of 64 bits
pub word_length : (n : ℕ) → n < 2 ^ 64 → length (decimal n) ≤ word_digits
word_length n h = length_most 19 n (omega arith)

-- a number from a power of ten to below the next has a digit more than the power
pub length_power : (k n : ℕ) → 10 ^ k ≤ n → n < 10 * 10 ^ k → length (decimal n) ≡ suc k
length_power zero n low high = length_one n (omega arith)
length_power (suc k) n low high =
    let tenth : length (decimal (n / 10)) ≡ suc k = length_power k (n / 10) (omega (arith, pow-suc 10 k)) (omega (arith, pow-suc 10 k)) in
    omega (arith, length_more n (omega (arith, pow-suc 10 k)), tenth)

-- 0 has as many digits as 1
pub length_least : (n : ℕ) → length (decimal (max n 1)) ≡ length (decimal n)
length_least zero = length_one 1 (omega arith) ∙ sym (length_one 0 (omega arith))
length_least (suc n) = ap (λ (m : ℕ). length (decimal m)) (omega arith)

-- the last k decimal digits of a number
unfoldable pub last_digits : ℕ → ℕ → List ℕ
last_digits zero n = []
last_digits (suc k) n = last_digits k (n / 10) ++ (digit (n % 10) ∷ [])

pub length_last : (k n : ℕ) → length (last_digits k n) ≡ k
unfolding last_digits
length_last zero n = refl
length_last (suc k) n = length-append (last_digits k (n / 10)) (digit (n % 10) ∷ []) ∙ omega (arith, length_last k (n / 10))

-- as many as it has are all
pub all_digits : (n : ℕ) → last_digits (length (decimal n)) n ≡ decimal n
unfolding last_digits
all_digits =
    by_tens (λ n. last_digits (length (decimal n)) n ≡ decimal n)
    (λ n h. rw (decimal_one n h, mod-eq_of_lt h) refl)
    (λ n h p. ap (λ (k : ℕ). last_digits k n) (length_suc n h) ∙ ap (λ (front : List ℕ). front ++ (digit (n % 10) ∷ [])) p ∙ sym (decimal_more n h))
  where
    length_suc : (n : ℕ) → 10 ≤ n → length (decimal n) ≡ suc (length (decimal (n / 10)))
    length_suc n h = omega (arith, length_more n h)
