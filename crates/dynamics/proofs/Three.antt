-- The three bins one after the other: there is room for each, and what they leave of the lane. Assumes nothing.
use Prim.Native.Nat.{ℕ, ◌+◌, ◌≤◌}
use mathlib.Core.Path.{◌≡◌, refl, sym, ◌∙◌, ap}
use mathlib.Core.List.{List, [], ◌∷◌, ◌++◌}
use native.Mathlib.Omega.{arith}
use lib.ListN.{length, length-append}
use Rattle.base.specs.Roads.{urban, rural, motorway, of_each}
use Rattle.base.specs.Words.{with_front}
use Rattle.order.specs.Sort.{sort}
use Rattle.order.proofs.Laws.{sort-length}
use Rattle.acceleration.specs.Inside.{SpeedLanes}
use Rattle.acceleration.specs.Products.{products_of}
use Rattle.dynamics.specs.declared.Figures.{Figures}
use Rattle.dynamics.specs.Dynamics.{dynamics_of, ranks_of}
use Rattle.dynamics.specs.Inside.{DynamicsLanes}
use Rattle.dynamics.proofs.Room.{room}
use Rattle.dynamics.proofs.Places.{part_from, with_part, part_room, part_back, filled_long, filled_next}

m_is : (products : List ℕ) {f : Figures} → f ≡ dynamics_of products → f.m ≡ length products
unfolding dynamics_of
m_is products e = ap (λ f. f.m) e

module _ (states speeds ranks : List ℕ) (lanes : DynamicsLanes states speeds ranks) where
  abbrev count : ℕ → ℕ
  count bin = length (products_of bin states speeds)

  abbrev ranked : ℕ → List ℕ
  ranked bin = sort (products_of bin states speeds)

  pub speed_lanes : SpeedLanes states speeds
  speed_lanes = record { agree = lanes.agree; few = lanes.few }

  ranked_long : (bin : ℕ) → length (ranked bin) ≡ count bin
  ranked_long bin = sort-length (products_of bin states speeds)

  pub room_urban : count urban ≤ length ranks
  room_urban = omega (arith, room states speeds, lanes.room)

  module _ {u : Figures} {l : List ℕ} (e : u ≡ dynamics_of (products_of urban states speeds)) (put : l ≡ with_front (ranked urban) ranks) where
    urban_is : u.m ≡ count urban
    urban_is = m_is (products_of urban states speeds) e

    pub behind_urban : u.m + count rural ≤ length l
    behind_urban =
        omega
        (arith, urban_is, room states speeds, lanes.room, ranked_long urban, filled_long (ranked urban) ranks put (omega (arith, ranked_long urban, room states speeds, lanes.room)))

    pub room_rural : count rural ≤ length (part_from u.m l)
    room_rural = part_room l u.m (count rural) behind_urban

    module _ {r : Figures} {k : List ℕ} (e' : r ≡ dynamics_of (products_of rural states speeds)) (put' : k ≡ with_front (ranked rural) (part_from u.m l)) where
      -- the lane with the part that was lent back in it
      abbrev both : List ℕ
      both = with_part u.m k l

      after-rural : both ≡ with_front (ranked urban ++ ranked rural) ranks
      after-rural = filled_next (ranked urban) ranks put (ranked rural) (urban_is ∙ sym (ranked_long urban)) (part_back l u.m (ranked rural) put')

      both_is : u.m + r.m ≡ length (ranked urban ++ ranked rural)
      both_is = omega (arith, urban_is, m_is (products_of rural states speeds) e', length-append (ranked urban) (ranked rural), ranked_long urban, ranked_long rural)

      both_are : length (ranked urban ++ ranked rural) ≡ count urban + count rural
      both_are = omega (arith, length-append (ranked urban) (ranked rural), ranked_long urban, ranked_long rural)

      pub behind_rural : u.m + r.m + count motorway ≤ length both
      behind_rural =
          omega
          (arith, both_is, both_are, room states speeds, lanes.room, filled_long (ranked urban ++ ranked rural) ranks after-rural (omega (arith, both_are, room states speeds, lanes.room)))

      pub room_motorway : count motorway ≤ length (part_from (u.m + r.m) both)
      room_motorway = part_room both (u.m + r.m) (count motorway) behind_rural

      module _ {m : Figures} {j : List ℕ} (e'' : m ≡ dynamics_of (products_of motorway states speeds)) (put'' : j ≡ with_front (ranked motorway) (part_from (u.m + r.m) both)) where
        pub all_figures : u ∷ r ∷ m ∷ [] ≡ of_each (λ bin. dynamics_of (products_of bin states speeds))
        all_figures = rw (e, e', e'') refl

        pub all_ranked : with_part (u.m + r.m) j both ≡ ranks_of states speeds ranks
        unfolding ranks_of
        all_ranked = filled_next (ranked urban ++ ranked rural) ranks after-rural (ranked motorway) both_is (part_back both (u.m + r.m) (ranked motorway) put'')
