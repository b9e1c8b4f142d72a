-- Laws of D by the order of the two speeds: whether the second counts, and its product. Assumes nothing.
use Prim.Native.Nat.{ℕ, ◌+◌, ◌-◌, ◌*◌, ◌≤◌, ◌<◌}
use mathlib.Core.Path.{◌≡◌, refl, sym, ◌∙◌, ap}
use mathlib.Core.Bool.{Bool, true, false, ◌&&◌, and-false}
use mathlib.Core.List.{List}
use native.Mathlib.Omega.{arith}
use borrow.Author.Tests.{ltb-true, ltb-false, lt-ltb, le-ltb, eq-eqb, ne_eqb}
use lib.Dec.{ltb}
use lib.IntN.{pos, nat_abs, sub_ℕ}
use lib.ListN.{get_or}
use lib.Signed.{lt_z}
use Rattle.base.proofs.Integers.{sub_up, sub_ways, pos_minus}
use Rattle.second.specs.Bins.{bin_of}
use Rattle.base.proofs.Tests.{and_right}
use Rattle.std.proofs.Common.{Some, None}
use Rattle.acceleration.specs.D.{speed_before, speed_after, d_of, has_d}
use Rattle.acceleration.specs.Inside.{product_counted}
use Rattle.acceleration.specs.Products.{counts, product_of, counts_in}

-- a - b is above 72 exactly when a is above b + 72
above : (a b : ℕ) → lt_z (pos 72) (sub_ℕ a b) ≡ ltb (b + 72) a
above a b = sub_ways (λ z. lt_z (pos 72) z ≡ ltb (b + 72) a) a b (λ (h : a < b). sym (le-ltb (b + 72) a (omega arith))) up
  where
    up : b ≤ a → ltb 72 (a - b) ≡ ltb (b + 72) a
    up h = go (ltb 72 (a - b)) refl
      where
        go : (t : Bool) → ltb 72 (a - b) ≡ t → t ≡ ltb (b + 72) a
        go true q = sym (lt-ltb (b + 72) a (omega (arith, ltb-true 72 (a - b) q)))
        go false q = sym (le-ltb (b + 72) a (omega (arith, ltb-false 72 (a - b) q)))

module _ (speeds : List ℕ) (i : ℕ) where
  d_is : d_of speeds i ≡ sub_ℕ (speed_after speeds i) (speed_before speeds i)
  unfolding d_of
  d_is = pos_minus (speed_after speeds i) (speed_before speeds i) (speed_after speeds i) (speed_before speeds i) refl

  -- the product where D is not below 0
  product_up : speed_before speeds i ≤ speed_after speeds i → product_of speeds i ≡ get_or speeds i 0 * (speed_after speeds i - speed_before speeds i)
  unfolding product_of
  product_up h = ap (λ z. get_or speeds i 0 * nat_abs z) (d_is ∙ sub_up _ _ h)

-- whether second i counts, by the test of the code
module _ (states speeds : List ℕ) (i : ℕ) where
  counts_is : counts states speeds i ≡ has_d states i && ltb (speed_before speeds i + 72) (speed_after speeds i)
  unfolding counts
  counts_is = ap (λ t. has_d states i && t) (ap (lt_z (pos 72)) (d_is speeds i) ∙ above (speed_after speeds i) (speed_before speeds i))

  pub rises : has_d states i && ltb (speed_before speeds i + 72) (speed_after speeds i) ≡ true → speed_before speeds i + 72 < speed_after speeds i
  rises t = ltb-true (speed_before speeds i + 72) (speed_after speeds i) (and_right (has_d states i) (ltb (speed_before speeds i + 72) (speed_after speeds i)) t)

  -- its product, by its bin and that test
  module _ (bin : ℕ) where
    pub in_other_bin : (bin_of (get_or speeds i 0) ≡ bin → ⊥) → product_counted bin states speeds i ≡ None
    unfolding product_counted counts_in
    in_other_bin other = rw (ne_eqb (bin_of (get_or speeds i 0)) bin other, and-false (counts states speeds i)) refl

    pub not_counted : has_d states i && ltb (speed_before speeds i + 72) (speed_after speeds i) ≡ false → product_counted bin states speeds i ≡ None
    unfolding product_counted counts_in
    not_counted t = rw (counts_is ∙ t) refl

    pub counted : bin_of (get_or speeds i 0) ≡ bin → has_d states i && ltb (speed_before speeds i + 72) (speed_after speeds i) ≡ true → product_counted bin states speeds i ≡ Some (get_or speeds i 0 * (speed_after speeds i - speed_before speeds i))
    unfolding product_counted counts_in
    counted same t =
        rw (counts_is ∙ t, eq-eqb (bin_of (get_or speeds i 0)) bin same) (ap (λ (p : ℕ). Some p) (product_up speeds i (omega (arith, rises t))))
