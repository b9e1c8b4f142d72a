-- Laws of `sub_ℕ a b`, the integer a - b of two natural numbers: with them a goal on integers becomes one for `omega`. Assumes nothing.
use Prim.Native.Nat.{ℕ, zero, suc, ◌+◌, ◌-◌, ◌*◌, ◌≤◌, ◌<◌}
use mathlib.Core.Path.{◌≡◌, refl, sym, ◌∙◌, ap, ap₂}
use mathlib.Core.Bool.{Bool, true, false, not}
use native.Mathlib.Nat.{mul-add, add-mul}
use native.Mathlib.Omega.{arith}
use borrow.Author.Tests.{ltb-true, ltb-false, leb-true, leb-false, lt-ltb, le-ltb, le-leb, lt-leb}
use lib.Dec.{leb, ltb}
use lib.IntN.{ℤ, pos, negsuc, nat_abs, neg_ℤ, sub_ℕ, ◌+ℤ◌, ◌-ℤ◌, ◌*ℤ◌}
use lib.Signed.{le_z, lt_z}

-- by the order of the two
pub sub_up : (a b : ℕ) → b ≤ a → sub_ℕ a b ≡ pos (a - b)
sub_up a b h = rw (le-ltb a b h) refl

pub sub_down : (a b : ℕ) → a < b → sub_ℕ a b ≡ negsuc (b - suc a)
sub_down a b h = rw (lt-ltb a b h) refl

-- what holds either way holds of the difference
pub sub_ways {ℓ} : (P : ℤ → Type ℓ) (a b : ℕ) → (a < b → P (negsuc (b - suc a))) → (b ≤ a → P (pos (a - b))) → P (sub_ℕ a b)
sub_ways P a b down up = go (ltb a b) refl
  where
    go : (t : Bool) → ltb a b ≡ t → P (sub_ℕ a b)
    go true q = rw (sub_down a b (ltb-true a b q)) (down (ltb-true a b q))
    go false q = rw (sub_up a b (ltb-false a b q)) (up (ltb-false a b q))

-- the same of two differences
pub sub_ways_two {ℓ} : (P : ℤ → ℤ → Type ℓ) (a b c d : ℕ) → (a < b → c < d → P (negsuc (b - suc a)) (negsuc (d - suc c))) → (a < b → d ≤ c → P (negsuc (b - suc a)) (pos (c - d))) → (b ≤ a → c < d → P (pos (a - b)) (negsuc (d - suc c))) → (b ≤ a → d ≤ c → P (pos (a - b)) (pos (c - d))) → P (sub_ℕ a b) (sub_ℕ c d)
sub_ways_two P a b c d both_down down_up up_down both_up =
    sub_ways (λ y. P y (sub_ℕ c d)) a b
    (λ h. sub_ways (P (negsuc (b - suc a))) c d (both_down h) (down_up h))
    (λ h. sub_ways (P (pos (a - b))) c d (up_down h) (both_up h))

-- an integer is a difference
pub pos_is : (n a b : ℕ) → n + b ≡ a → pos n ≡ sub_ℕ a b
pos_is n a b e = let q : n ≡ a - b = omega arith in ap pos q ∙ sym (sub_up a b (omega arith))

pub negsuc_is : (n a b : ℕ) → suc n + a ≡ b → negsuc n ≡ sub_ℕ a b
negsuc_is n a b e = let q : n ≡ b - suc a = omega arith in ap negsuc q ∙ sym (sub_down a b (omega arith))

-- two differences are equal
pub sub_same : (a b c d : ℕ) → a + d ≡ c + b → sub_ℕ a b ≡ sub_ℕ c d
sub_same a b c d e =
    sub_ways (λ z. z ≡ sub_ℕ c d) a b (λ (h : a < b). negsuc_is _ c d (omega arith)) (λ (h : b ≤ a). pos_is _ c d (omega arith))

-- the size of a difference
pub size_of_sub : (a b : ℕ) → nat_abs (sub_ℕ a b) ≡ (a - b) + (b - a)
size_of_sub a b =
    sub_ways (λ z. nat_abs z ≡ (a - b) + (b - a)) a b (λ (h : a < b). omega arith) (λ (h : b ≤ a). omega arith)

-- the integers' own difference
pub pos_minus : (m n a b : ℕ) → m + b ≡ a + n → pos m -ℤ pos n ≡ sub_ℕ a b
pos_minus m zero a b e = pos_is (m + 0) a b (omega arith)
pos_minus m (suc n) a b e = sub_same m (suc n) a b e

pub negsuc_minus : (m n a b : ℕ) → suc m + n + a ≡ b → negsuc m -ℤ pos n ≡ sub_ℕ a b
negsuc_minus m zero a b e = sub_same 0 (suc m) a b (omega arith)
negsuc_minus m (suc n) a b e = negsuc_is (suc (m + n)) a b (omega arith)

pub sub_minus : (a b c d : ℕ) → sub_ℕ a b -ℤ sub_ℕ c d ≡ sub_ℕ (a + d) (b + c)
sub_minus a b c d =
    sub_ways_two (λ y z. y -ℤ z ≡ sub_ℕ (a + d) (b + c)) a b c d
    (λ (h : a < b) (k : c < d). sub_same (suc (d - suc c)) (suc (b - suc a)) (a + d) (b + c) (omega arith))
    (λ (h : a < b) (k : d ≤ c). negsuc_minus (b - suc a) (c - d) (a + d) (b + c) (omega arith))
    (λ (h : b ≤ a) (k : c < d). pos_is _ (a + d) (b + c) (omega arith))
    (λ (h : b ≤ a) (k : d ≤ c). pos_minus (a - b) (c - d) (a + d) (b + c) (omega arith))

pub sub_minus_same : (a b k : ℕ) → sub_ℕ a k -ℤ sub_ℕ b k ≡ sub_ℕ a b
sub_minus_same a b k = sub_minus a k b k ∙ sub_same (a + k) (k + b) a b (omega arith)

-- the sum of two differences
pub sub_plus : (a b c d : ℕ) → sub_ℕ a b +ℤ sub_ℕ c d ≡ sub_ℕ (a + c) (b + d)
sub_plus a b c d =
    sub_ways_two (λ y z. y +ℤ z ≡ sub_ℕ (a + c) (b + d)) a b c d
    (λ (h : a < b) (k : c < d). negsuc_is _ (a + c) (b + d) (omega arith))
    (λ (h : a < b) (k : d ≤ c). sub_same (c - d) (suc (b - suc a)) (a + c) (b + d) (omega arith))
    (λ (h : b ≤ a) (k : c < d). sub_same (a - b) (suc (d - suc c)) (a + c) (b + d) (omega arith))
    (λ (h : b ≤ a) (k : d ≤ c). pos_is _ (a + c) (b + d) (omega arith))

-- their product: (a - b)(c - d) is ac + bd less ad + bc
crossed : (a b c d x y : ℕ) → b + x ≡ a → d + y ≡ c → x * y + (a * d + b * c) ≡ a * c + b * d
crossed a b c d x y p q = rw (sym p, sym q) (simp (mul-add, add-mul) (omega arith))

negated : (n a b : ℕ) → n + a ≡ b → neg_ℤ (pos n) ≡ sub_ℕ a b
negated zero a b e = pos_is 0 a b (omega arith)
negated (suc n) a b e = negsuc_is n a b e

pub sub_times : (a b c d : ℕ) → sub_ℕ a b *ℤ sub_ℕ c d ≡ sub_ℕ (a * c + b * d) (a * d + b * c)
sub_times a b c d =
    sub_ways_two (λ y z. y *ℤ z ≡ sub_ℕ (a * c + b * d) (a * d + b * c)) a b c d
    (λ (h : a < b) (k : c < d). pos_is (suc (b - suc a) * suc (d - suc c)) (a * c + b * d) (a * d + b * c) (omega (arith, crossed b a d c (suc (b - suc a)) (suc (d - suc c)) (omega arith) (omega arith))))
    (λ (h : a < b) (k : d ≤ c). negated (suc (b - suc a) * (c - d)) (a * c + b * d) (a * d + b * c) (omega (arith, crossed b a c d (suc (b - suc a)) (c - d) (omega arith) (omega arith))))
    (λ (h : b ≤ a) (k : c < d). negated ((a - b) * suc (d - suc c)) (a * c + b * d) (a * d + b * c) (omega (arith, crossed a b d c (a - b) (suc (d - suc c)) (omega arith) (omega arith))))
    (λ (h : b ≤ a) (k : d ≤ c). pos_is ((a - b) * (c - d)) (a * c + b * d) (a * d + b * c) (omega (arith, crossed a b c d (a - b) (c - d) (omega arith) (omega arith))))

-- two tests of order agree
pub leb_same : (a b c d : ℕ) → (a ≤ b → c ≤ d) → (b < a → d < c) → leb a b ≡ leb c d
leb_same a b c d up down = go (leb a b) refl
  where
    go : (t : Bool) → leb a b ≡ t → leb a b ≡ leb c d
    go true q = q ∙ sym (le-leb c d (up (leb-true a b q)))
    go false q = q ∙ sym (lt-leb c d (down (leb-false a b q)))

-- a - k and b - k are ordered as a and b
pub sub_at_most : (a b k : ℕ) → le_z (sub_ℕ a k) (sub_ℕ b k) ≡ leb a b
sub_at_most a b k = sub_ways_two (λ y z. le_z y z ≡ leb a b) a k b k both_down down_up up_down both_up
  where
    both_down : a < k → b < k → leb (k - suc b) (k - suc a) ≡ leb a b
    both_down h i =
        leb_same (k - suc b) (k - suc a) a b
        (λ (j : k - suc b ≤ k - suc a). omega arith)
        (λ (j : k - suc a < k - suc b). omega arith)

    down_up : a < k → k ≤ b → true ≡ leb a b
    down_up h i = sym (le-leb a b (omega arith))

    up_down : k ≤ a → b < k → false ≡ leb a b
    up_down h i = sym (lt-leb a b (omega arith))

    both_up : k ≤ a → k ≤ b → leb (a - k) (b - k) ≡ leb a b
    both_up h i =
        leb_same (a - k) (b - k) a b
        (λ (j : a - k ≤ b - k). omega arith)
        (λ (j : b - k < a - k). omega arith)

-- any two differences are ordered as what each has and the other lacks
pub sub_order : (a b c d : ℕ) → le_z (sub_ℕ a b) (sub_ℕ c d) ≡ leb (a + d) (c + b)
sub_order a b c d =
    ap₂ le_z (sub_same a b (a + d) (b + d) (omega arith)) (sub_same c d (c + b) (b + d) (omega arith)) ∙ sub_at_most (a + d) (c + b) (b + d)

-- below is not at least
pub ltb_is : (a b : ℕ) → ltb a b ≡ not (leb b a)
ltb_is a b = go (leb b a) refl
  where
    go : (t : Bool) → leb b a ≡ t → ltb a b ≡ not t
    go true q = le-ltb a b (leb-true b a q)
    go false q = lt-ltb a b (leb-false b a q)

lt_z_is : (y z : ℤ) → lt_z y z ≡ not (le_z z y)
lt_z_is (pos a) (pos b) = ltb_is a b
lt_z_is (pos a) (negsuc b) = refl
lt_z_is (negsuc a) (pos b) = refl
lt_z_is (negsuc a) (negsuc b) = ltb_is b a

pub sub_below : (a b k : ℕ) → lt_z (sub_ℕ a k) (sub_ℕ b k) ≡ ltb a b
sub_below a b k = lt_z_is (sub_ℕ a k) (sub_ℕ b k) ∙ ap not (sub_at_most b a k) ∙ sym (ltb_is a b)
