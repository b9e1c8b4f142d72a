-- The figures of a bin from what the calls give: its products written, then ranked. Assumes nothing.
use Prim.Native.Nat.{ℕ, ◌≤◌}
use mathlib.Core.Path.{◌≡◌, refl, ◌∙◌, ap, ap₂}
use mathlib.Core.List.{List, ◌++◌}
use native.Mathlib.Omega.{arith}
use lib.ListN.{length, take, drop}
use Rattle.base.specs.Limits.{trip_limit}
use Rattle.base.specs.Words.{sum, with_front}
use Rattle.order.specs.Sort.{sort}
use Rattle.acceleration.specs.declared.Products.{Products}
use Rattle.acceleration.specs.Inside.{figures_of}
use Rattle.acceleration.specs.Products.{products_of}
use Rattle.acceleration.proofs.Writing.{products_at_most}
use Rattle.percentile.specs.Percentile.{q_or_zero}
use Rattle.percentile.proofs.Front.{filled_length, filled_front, filled_rest, ranked_front}
use Rattle.dynamics.specs.Dynamics.{dynamics_of}

module _ (bin : ℕ) (states speeds lane : List ℕ) (room : length (products_of bin states speeds) ≤ length lane) {products : Products} {written : List ℕ} (is : products ≡ figures_of (products_of bin states speeds)) (w : written ≡ with_front (products_of bin states speeds) lane) where
  pub count_is : products.count ≡ length (products_of bin states speeds)
  unfolding figures_of
  count_is = ap (λ p. p.count) is

  total_is : products.total ≡ sum (products_of bin states speeds)
  unfolding figures_of
  total_is = ap (λ p. p.total) is

  pub count_fits : products.count ≤ length written
  count_fits = omega (arith, count_is, filled_length (products_of bin states speeds) lane room w)

  pub count_few : length states ≤ trip_limit → products.count ≤ trip_limit
  count_few few = omega (arith, count_is, products_at_most bin states speeds (length states))

  front : take products.count written ≡ products_of bin states speeds
  front = ap (λ (n : ℕ). take n written) count_is ∙ filled_front (products_of bin states speeds) lane room w

  rest : drop products.count written ≡ drop (length (products_of bin states speeds)) lane
  rest = ap (λ (n : ℕ). drop n written) count_is ∙ filled_rest (products_of bin states speeds) lane room w

  pub figures_are : {q : ℕ} → q ≡ q_or_zero (take products.count written) → record { m = products.count; t = products.total; q = q } ≡ dynamics_of (products_of bin states speeds)
  unfolding dynamics_of
  figures_are e = rw (count_is, total_is, e, front) refl

  pub lane_is : {ranked : List ℕ} → ranked ≡ sort (take products.count written) ++ drop products.count written → ranked ≡ with_front (sort (products_of bin states speeds)) lane
  lane_is e = e ∙ ap₂ (λ (f r : List ℕ). sort f ++ r) front rest ∙ ranked_front (products_of bin states speeds) lane
