-- Laws of `digit` and `hex`: a digit is `0` to `9` or `a` to `f`, and what is read back from digits is the number that they were written for.
-- Assumes nothing.
use Prim.Native.Nat.{ℕ, zero, suc, ◌+◌, ◌-◌, ◌*◌, ◌/◌, ◌%◌, ◌<◌}
use mathlib.Core.Path.{◌≡◌, refl, sym, ◌∙◌, ap}
use mathlib.Core.Bool.{Bool, true, false, false≢true}
use mathlib.Core.List.{List, [], ◌∷◌, ◌++◌}
use native.Mathlib.Nat.{zero-add, div-add-mod', div-div-eq-div-mul, mod-eq_of_lt}
use native.Mathlib.Omega.{arith}
use lib.Dec.{ltb, eqb}
use borrow.Author.Tests.{eqb-true, eqb-false}
use Rattle.base.specs.Words.{pick}
use Rattle.text.specs.Text.{digit, hex}

-- a test passes at each number below n
abbrev every_below : (ℕ → Bool) → ℕ → Bool
every_below test zero = true
every_below test (suc n) = pick (test n) (every_below test n) false

-- so it passes at any one of them
at_each : (test : ℕ → Bool) (n : ℕ) → every_below test n ≡ true → (d : ℕ) → d < n → test d ≡ true
at_each test zero all d h = absurd (omega arith)
at_each test (suc n) all d h = go (test n) refl all (λ rest. at_each test n rest d) (eqb d n) refl
  where
    go : (t : Bool) → test n ≡ t → pick t (every_below test n) false ≡ true → (every_below test n ≡ true → d < n → test d ≡ true) → (same : Bool) → eqb d n ≡ same → test d ≡ true
    go true e rest less true q = rw (eqb-true d n q) e
    go true e rest less false q = less rest (omega (arith, eqb-false d n q))
    go false e rest less same q = absurd (false≢true rest)

-- ten digits, then six letters
pub digit_is : (d : ℕ) → d < 16 → digit d ≡ pick (ltb d 10) (48 + d) (87 + d)
unfolding digit
digit_is d h = eqb-true _ _ (at_each (λ k. eqb (digit k) (pick (ltb k 10) (48 + k) (87 + k))) 16 refl d h)

-- the number that a digit stands for
unfoldable pub digit_value : ℕ → ℕ
digit_value byte = pick (ltb byte 58) (byte - 48) (byte - 87)

pub digit_back : (d : ℕ) → d < 16 → digit_value (digit d) ≡ d
unfolding digit digit_value
digit_back d h = eqb-true _ _ (at_each (λ k. eqb (digit_value (digit k)) k) 16 refl d h)

-- what a text of digits says in a base, read on from n
unfoldable pub read_on : ℕ → ℕ → List ℕ → ℕ
read_on base n [] = n
read_on base n (byte ∷ rest) = read_on base (n * base + digit_value byte) rest

abbrev pub read : ℕ → List ℕ → ℕ
read base text = read_on base 0 text

-- one digit more
pub read_more : (base n : ℕ) (text : List ℕ) (d : ℕ) → d < 16 → read_on base n (text ++ (digit d ∷ [])) ≡ read_on base n text * base + d
unfolding read_on
read_more base n [] d h = rw (digit_back d h) refl
read_more base n (byte ∷ rest) d h = read_more base (n * base + digit_value byte) rest d h

-- the hex text of a 16-bit number, read back, is the number
pub hex_back : (n : ℕ) → n < 65536 → read 16 (hex n) ≡ n
unfolding hex read_on
hex_back n h =
    let by_16_twice : n / 256 ≡ n / 16 / 16 = sym (div-div-eq-div-mul n 16 16) in
    let by_16_thrice : n / 4096 ≡ n / 16 / 16 / 16 = sym (ap (λ (q : ℕ). q / 16) (div-div-eq-div-mul n 16 16) ∙ div-div-eq-div-mul n 256 16) in
    let top : n / 16 / 16 / 16 % 16 ≡ n / 16 / 16 / 16 = mod-eq_of_lt (omega arith) in
    rw
    (digit_back (n / 4096 % 16) (omega arith), digit_back (n / 256 % 16) (omega arith), digit_back (n / 16 % 16) (omega arith), digit_back (n % 16) (omega arith))
    (rw (by_16_twice, by_16_thrice, top, zero-add (n / 16 / 16 / 16), div-add-mod' (n / 16 / 16) 16, div-add-mod' (n / 16) 16, div-add-mod' n 16))

-- so two different verdicts never print alike
pub hex_differs : (m n : ℕ) → m < 65536 → n < 65536 → hex m ≡ hex n → m ≡ n
hex_differs m n hm hn e = sym (hex_back m hm) ∙ ap (read 16) e ∙ hex_back n hn
