-- Laws of a bin's products as they are written: one second more, at the code's i + 1, and the next place of the lane. Assumes nothing.
use Prim.Native.Nat.{ℕ, zero, suc, ◌+◌, ◌-◌, ◌*◌, ◌^◌, ◌≤◌, ◌<◌}
use mathlib.Core.Path.{◌≡◌, refl, sym, ◌∙◌, ap}
use mathlib.Core.Bool.{Bool, true, false}
use mathlib.Core.List.{List, [], ◌∷◌, ◌++◌}
use native.Mathlib.Numerals.{add-one}
use native.Mathlib.Omega.{arith}
use lib.ListN.{length, set, length-append, length-set}
use Rattle.std.proofs.Common.{Some, None}
use Rattle.base.proofs.Store.{store_next}
use Rattle.base.specs.Words.{pick, sum, with_front}
use Rattle.base.proofs.Choice.{both_ways}
use Rattle.base.proofs.Seconds.{after_none, after_more}
use Rattle.base.proofs.Sums.{sum-append}
use Rattle.acceleration.specs.declared.Products.{Products}
use Rattle.acceleration.specs.Inside.{product_counted, figures_of}
use Rattle.acceleration.specs.Products.{product_of, counts_in, products_after}

module _ (bin : ℕ) (states speeds : List ℕ) where
  pub products_none : products_after bin states speeds 0 ≡ []
  unfolding products_after
  products_none = after_none _ _

  -- one second more, by its product
  pub products_more : (i product : ℕ) → product_counted bin states speeds i ≡ Some product → products_after bin states speeds (i + 1) ≡ products_after bin states speeds i ++ (product ∷ [])
  unfolding products_after product_counted
  products_more i product = go (counts_in bin states speeds i) refl
    where
      go : (t : Bool) → counts_in bin states speeds i ≡ t → pick t (Some (product_of speeds i)) None ≡ Some product → products_after bin states speeds (i + 1) ≡ products_after bin states speeds i ++ (product ∷ [])
      go true q h =
          let same : product_of speeds i ≡ product = cc in
          after_more _ _ i ∙ rw q (ap (λ x. products_after bin states speeds i ++ (x ∷ [])) same)
      go false q h = absurd (cc)

  pub products_same : (i : ℕ) → product_counted bin states speeds i ≡ None → products_after bin states speeds (i + 1) ≡ products_after bin states speeds i
  unfolding products_after product_counted
  products_same i = go (counts_in bin states speeds i) refl
    where
      go : (t : Bool) → counts_in bin states speeds i ≡ t → pick t (Some (product_of speeds i)) None ≡ None → products_after bin states speeds (i + 1) ≡ products_after bin states speeds i
      go true q h = absurd (cc)
      go false q h = after_more _ _ i ∙ rw q refl

  -- one more where the second counts, so never fewer, and no more than the seconds
  pub length_step : (i : ℕ) → length (products_after bin states speeds (i + 1)) ≡ length (products_after bin states speeds i) + pick (counts_in bin states speeds i) 1 0
  unfolding products_after
  length_step i = go (counts_in bin states speeds i) refl
    where
      go : (t : Bool) → counts_in bin states speeds i ≡ t → length (products_after bin states speeds (i + 1)) ≡ length (products_after bin states speeds i) + pick t 1 0
      go true q = rw (after_more _ _ i, q, length-append) refl
      go false q = rw (after_more _ _ i, q) (omega arith)

  one_at_most : (i : ℕ) → pick (counts_in bin states speeds i) 1 0 ≤ 1
  one_at_most i = both_ways (λ n. n ≤ 1) (counts_in bin states speeds i) (omega arith) (omega arith)

  pub products_at_most : (i : ℕ) → length (products_after bin states speeds i) ≤ i
  products_at_most zero = rw products_none (omega arith)
  products_at_most (suc i) = rw (sym (add-one i)) (omega (arith, products_at_most i, length_step i, one_at_most i))

  pub products_grow : (i k : ℕ) → length (products_after bin states speeds i) ≤ length (products_after bin states speeds (i + k))
  products_grow i zero = let same : i ≡ i + 0 = omega arith in rw (sym same) (omega arith)
  products_grow i (suc k) =
      let same : i + k + 1 ≡ i + suc k = omega arith in
      rw (sym same) (omega (arith, products_grow i k, length_step (i + k)))

  -- after the first i seconds: the lane begins with their products, and the rest of it is as it was
  pub record Written (lane₀ : List ℕ) (i : ℕ) (lane : List ℕ) (count total : ℕ) : Type 0 where
    pub counted : count ≡ length (products_after bin states speeds i)
    pub added : total ≡ sum (products_after bin states speeds i)
    pub small : total ≤ 2 ^ 32 * i
    pub stored : lane ≡ with_front (products_after bin states speeds i) lane₀
    pub long : length lane ≡ length lane₀

  pub written_none : (lane₀ : List ℕ) → Written lane₀ 0 lane₀ 0 0
  unfolding sum
  written_none lane₀ =
      record {
        counted = rw products_none refl;
        added = rw products_none refl;
        small = omega arith;
        stored = rw products_none refl;
        long = refl;
      }

  module _ {lane₀ lane : List ℕ} {i count total : ℕ} (w : Written lane₀ i lane count total) where
    pub written_same : product_counted bin states speeds i ≡ None → Written lane₀ (i + 1) lane count total
    written_same none =
        let same : products_after bin states speeds (i + 1) ≡ products_after bin states speeds i = products_same i none in
        record {
          counted = rw same w.counted;
          added = rw same w.added;
          small = omega (arith, w.small);
          stored = rw same w.stored;
          long = w.long;
        }

    module _ (h : i < length states) {product : ℕ} (is : product_counted bin states speeds i ≡ Some product) (room : length (products_after bin states speeds (length states)) ≤ length lane₀) where
      more : products_after bin states speeds (i + 1) ≡ products_after bin states speeds i ++ (product ∷ [])
      more = products_more i product is

      longer : length (products_after bin states speeds (i + 1)) ≡ length (products_after bin states speeds i) + 1
      longer = ap length more ∙ length-append (products_after bin states speeds i) (product ∷ [])

      fits : length (products_after bin states speeds i) < length lane₀
      fits =
          let end : i + 1 + (length states - (i + 1)) ≡ length states = omega arith in
          let grow = products_grow (i + 1) (length states - (i + 1)) in
          let grown : length (products_after bin states speeds (i + 1)) ≤ length (products_after bin states speeds (length states)) = rw end at grow in
          omega (arith, longer)

      pub has_room : count < length lane
      has_room = omega (arith, fits, w.counted, w.long)

      pub written_more : product < 2 ^ 32 → Written lane₀ (i + 1) (set lane count product) (count + 1) (total + product)
      unfolding sum
      written_more fits32 =
          record {
            counted = omega (arith, longer, w.counted);
            added = ap (λ t. t + product) w.added ∙ sym (ap sum more ∙ sum-append (products_after bin states speeds i) (product ∷ []) ∙ ap (λ t. sum (products_after bin states speeds i) + t) last);
            small = omega (arith, w.small);
            stored = rw (w.stored, w.counted, longer, more) (store_next (products_after bin states speeds i) lane₀ (length (products_after bin states speeds i)) product refl fits);
            long = length-set lane count product ∙ w.long;
          }
        where
          last : product + 0 ≡ product
          last = omega arith

  -- after all seconds
  pub all_counted : {lane₀ lane : List ℕ} {i count total : ℕ} → Written lane₀ i lane count total → ◌≡◌ {A = Products} (record { count = count; total = total }) (figures_of (products_after bin states speeds i))
  unfolding figures_of
  all_counted w = rw (w.counted, w.added) refl
