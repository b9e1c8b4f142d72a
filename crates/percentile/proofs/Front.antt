-- The front of a lane, ranked: its lengths, that Q may be asked of it, and Q or zero. Assumes nothing.
use Prim.Native.Nat.{ℕ, ◌+◌, ◌≤◌, ◌<◌}
use mathlib.Core.Path.{◌≡◌, refl, sym, ◌∙◌, ap}
use mathlib.Core.List.{List, ◌++◌}
use native.Mathlib.Omega.{arith}
use borrow.Author.Tests.{lt-ltb, le-ltb}
use lib.ListN.{length, take, drop, length-append, length-drop}
use lib.Seq.{length-take-le, take_at, drop_at}
use Rattle.base.specs.Limits.{trip_limit}
use Rattle.base.specs.Words.{with_front}
use Rattle.order.specs.Sort.{sort}
use Rattle.order.specs.Order.{Ascending}
use Rattle.order.proofs.Laws.{sort-length, sort_ascending}
use Rattle.percentile.specs.Inside.{Ranked}
use Rattle.percentile.specs.Percentile.{fewest, q_of, q_or_zero}

-- Q, or zero
pub too_few : (products : List ℕ) → length products < fewest → q_or_zero products ≡ 0
unfolding q_or_zero
too_few products h = rw (lt-ltb (length products) fewest h) refl

pub enough : (products : List ℕ) → fewest ≤ length products → q_or_zero products ≡ q_of (sort products)
unfolding q_or_zero
enough products h = rw (le-ltb (length products) fewest h) refl

module _ (lane : List ℕ) (m : ℕ) (h : m ≤ length lane) {ranked : List ℕ} (is : ranked ≡ sort (take m lane)) where
  pub ranked_length : length ranked ≡ m
  ranked_length = ap length is ∙ sort-length (take m lane) ∙ length-take-le m lane h

  pub front : take m (ranked ++ drop m lane) ≡ ranked
  front = take_at ranked (drop m lane) m ranked_length

  pub front_ranked : fewest ≤ m → m ≤ trip_limit → Ranked (take m (ranked ++ drop m lane))
  front_ranked some few =
      let ascends : Ascending ranked = rw is (sort_ascending (take m lane)) in
      rw front record { enough = omega (arith, ranked_length); few = omega (arith, ranked_length); ascending = ascends }

  pub q_too_few : m < fewest → q_or_zero (take m lane) ≡ 0
  q_too_few few = too_few (take m lane) (omega (arith, length-take-le m lane h))

  pub q_of_front : fewest ≤ m → q_of (take m (ranked ++ drop m lane)) ≡ q_or_zero (take m lane)
  q_of_front some = ap q_of (front ∙ is) ∙ sym (enough (take m lane) (omega (arith, length-take-le m lane h)))

-- values copied to the front of a lane
module _ (values lane : List ℕ) (room : length values ≤ length lane) {filled : List ℕ} (is : filled ≡ with_front values lane) where
  pub filled_length : length filled ≡ length lane
  filled_length = ap length is ∙ length-append values (drop (length values) lane) ∙ rest
    where
      rest : length values + length (drop (length values) lane) ≡ length lane
      rest = omega (arith, length-drop (length values) lane)

  pub filled_front : take (length values) filled ≡ values
  filled_front = ap (take (length values)) is ∙ take_at values (drop (length values) lane) (length values) refl

  pub filled_rest : drop (length values) filled ≡ drop (length values) lane
  filled_rest = ap (drop (length values)) is ∙ drop_at values (drop (length values) lane) (length values) refl

-- ranked, they have as many places as before
pub ranked_front : (values lane : List ℕ) → sort values ++ drop (length values) lane ≡ with_front (sort values) lane
ranked_front values lane = ap (λ (n : ℕ). sort values ++ drop n lane) (sym (sort-length values))
