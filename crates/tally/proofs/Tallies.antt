-- Laws of the tallies: one second more changes the tally of its bin, and the bins add up to the trip. Assumes nothing.
use Prim.Native.Nat.{ℕ, ◌+◌, ◌^◌, ◌≤◌, ◌<◌}
use mathlib.Core.Path.{◌≡◌, refl}
use mathlib.Core.Bool.{Bool, true, false, ◌&&◌, ◌||◌, false≢true}
use mathlib.Core.List.{List, [], ◌∷◌}
use native.Mathlib.Nat.{add-zero}
use native.Mathlib.Omega.{arith}
use borrow.Author.Tests.{eqb-true}
use lib.Dec.{leb, eqb}
use lib.ListN.{length, get_or, set}
use Rattle.base.specs.Limits.{trip_limit}
use Rattle.base.specs.Second.{measured, missing, check, state_known}
use Rattle.base.specs.Roads.{urban, rural, motorway}
use Rattle.base.specs.Words.{pick, after_first, sum_over, how_many}
use Rattle.base.proofs.Choice.{both_ways}
use Rattle.second.specs.Bins.{bin_of}
use Rattle.second.specs.Row.{has_values}
use Rattle.tally.specs.declared.Tally.{Tally}
use Rattle.tally.specs.Sets.{is_missing, is_present, is_in_bin}
use Rattle.tally.specs.Tally.{mass_of, no_seconds, tally_over, whole_tally}
use Rattle.tally.specs.Inside.{bin_tallies_after, bin_tallies, with_second, added, Room}
use Rattle.base.proofs.SumOver.{sum_over_more, sum_over_at_most, how_many_at_most, how_many_both, sum_over_parts}

-- a second that has values is in one bin
one_bin : (present : Bool) (speed v : ℕ) → pick (present && eqb (bin_of speed) urban) v 0 + pick (present && eqb (bin_of speed) rural) v 0 + pick (present && eqb (bin_of speed) motorway) v 0 ≡ pick present v 0
unfolding bin_of
one_bin present speed v = go present (leb speed 6_000) (leb speed 9_000)
  where
    go : (t low middle : Bool) → let bin = pick low urban (pick middle rural motorway) in pick (t && eqb bin urban) v 0 + pick (t && eqb bin rural) v 0 + pick (t && eqb bin motorway) v 0 ≡ pick t v 0
    go false low middle = refl
    go true true middle = omega arith
    go true false true = omega arith
    go true false false = omega arith

-- a second changes the tally of a bin where it is in it
changed : (t b : Bool) (before : Tally) (speed co2 nox : ℕ) → ◌≡◌ {A = Tally} (record { seconds = before.seconds + pick (t && b) 1 0; distance = before.distance + pick (t && b) speed 0; co2 = before.co2 + pick (t && b) co2 0; nox = before.nox + pick (t && b) nox 0 }) (pick b (pick t (record { seconds = before.seconds + 1; distance = before.distance + speed; co2 = before.co2 + co2; nox = before.nox + nox }) before) before)
changed true true before speed co2 nox = refl
changed true false before speed co2 nox = simp add-zero
changed false true before speed co2 nox = simp add-zero
changed false false before speed co2 nox = simp add-zero

module _ (states speeds co2 nox : List ℕ) (i : ℕ) where
  -- second i taken into a tally
  abbrev pub with_this : Tally → Tally
  with_this before = with_second before (get_or states i 0) (get_or speeds i 0) (get_or co2 i 0) (get_or nox i 0)

  bin_more : (bin : ℕ) → tally_over states speeds co2 nox (is_in_bin states speeds bin) (i + 1) ≡ pick (eqb (bin_of (get_or speeds i 0)) bin) (with_this (tally_over states speeds co2 nox (is_in_bin states speeds bin) i)) (tally_over states speeds co2 nox (is_in_bin states speeds bin) i)
  unfolding tally_over with_second
  bin_more bin =
      rw (sum_over_more, sum_over_more, sum_over_more, sum_over_more)
      (changed (has_values (get_or states i 0)) (eqb (bin_of (get_or speeds i 0)) bin) (tally_over states speeds co2 nox (is_in_bin states speeds bin) i) (get_or speeds i 0) (mass_of (get_or states i 0) (get_or co2 i 0)) (mass_of (get_or states i 0) (get_or nox i 0)))

-- a change of one bin's tally is a store in its place
put : (f : Tally → Tally) (u r m : Tally) (speed : ℕ) → ◌≡◌ {A = List Tally} (pick (eqb (bin_of speed) urban) (f u) u ∷ pick (eqb (bin_of speed) rural) (f r) r ∷ pick (eqb (bin_of speed) motorway) (f m) m ∷ []) (set (u ∷ r ∷ m ∷ []) (bin_of speed) (f (get_or (u ∷ r ∷ m ∷ []) (bin_of speed) no_seconds)))
unfolding bin_of
put f u r m speed = go (leb speed 6_000) (leb speed 9_000)
  where
    go : (low middle : Bool) → let bin = pick low urban (pick middle rural motorway) in ◌≡◌ {A = List Tally} (pick (eqb bin urban) (f u) u ∷ pick (eqb bin rural) (f r) r ∷ pick (eqb bin motorway) (f m) m ∷ []) (set (u ∷ r ∷ m ∷ []) bin (f (get_or (u ∷ r ∷ m ∷ []) bin no_seconds)))
    go true middle = refl
    go false true = refl
    go false false = refl

-- a second in a known state has values or is missing, and not both
present_or_missing : (state : ℕ) → state_known state ≡ true → pick (has_values state) 1 0 + pick (eqb state missing) 1 0 ≡ 1
unfolding has_values
present_or_missing state known = go (eqb state measured) (eqb state missing) (eqb state check) refl refl refl known
  where
    go : (m s c : Bool) → eqb state measured ≡ m → eqb state missing ≡ s → eqb state check ≡ c → m || s || c ≡ true → pick (m || c) 1 0 + pick s 1 0 ≡ 1
    go true true c p q r h = absurd (omega (arith, eqb-true state measured p, eqb-true state missing q))
    go true false c p q r h = refl
    go false true true p q r h = absurd (omega (arith, eqb-true state missing q, eqb-true state check r))
    go false true false p q r h = refl
    go false false true p q r h = refl
    go false false false p q r h = absurd (false≢true h)

module _ (states speeds co2 nox : List ℕ) where
  pub bins_none : bin_tallies_after states speeds co2 nox 0 ≡ no_seconds ∷ no_seconds ∷ no_seconds ∷ []
  unfolding bin_tallies_after tally_over sum_over after_first
  bins_none = refl

  pub bins_length : (i : ℕ) → length (bin_tallies_after states speeds co2 nox i) ≡ 3
  unfolding bin_tallies_after
  bins_length i = refl

  -- one second more, at the code's i + 1
  pub bins_more : (i : ℕ) → bin_tallies_after states speeds co2 nox (i + 1) ≡ set (bin_tallies_after states speeds co2 nox i) (bin_of (get_or speeds i 0)) (with_this states speeds co2 nox i (get_or (bin_tallies_after states speeds co2 nox i) (bin_of (get_or speeds i 0)) no_seconds))
  unfolding bin_tallies_after
  bins_more i =
      rw (bin_more states speeds co2 nox i urban, bin_more states speeds co2 nox i rural, bin_more states speeds co2 nox i motorway)
      (put (with_this states speeds co2 nox i) _ _ _ (get_or speeds i 0))

  -- the tallies of the bins add up, of the first n seconds
  first_add_up : (n : ℕ) → added (bin_tallies_after states speeds co2 nox n) ≡ tally_over states speeds co2 nox (is_present states) n
  unfolding added bin_tallies_after tally_over
  first_add_up n = λ k. record { seconds = sums (λ i. 1) k; distance = sums (λ i. get_or speeds i 0) k; co2 = sums (λ i. mass_of (get_or states i 0) (get_or co2 i 0)) k; nox = sums (λ i. mass_of (get_or states i 0) (get_or nox i 0)) k }
    where
      sums : (value : ℕ → ℕ) → sum_over (is_in_bin states speeds urban) value n + sum_over (is_in_bin states speeds rural) value n + sum_over (is_in_bin states speeds motorway) value n ≡ sum_over (is_present states) value n
      sums value =
          sum_over_parts (is_present states) (is_in_bin states speeds urban) (is_in_bin states speeds rural) (is_in_bin states speeds motorway) value
          (λ i v. one_bin (has_values (get_or states i 0)) (get_or speeds i 0) v) n

  -- "Those four add up over the bins to the trip's"
  pub bins_add_up : added (bin_tallies states speeds co2 nox) ≡ whole_tally states speeds co2 nox
  bins_add_up = first_add_up (length states)

  -- "their seconds to n less the missing": where each state is known
  pub seconds_add_up : ((i : ℕ) → i < length states → state_known (get_or states i 0) ≡ true) → (whole_tally states speeds co2 nox).seconds + how_many (is_missing states) (length states) ≡ length states
  unfolding tally_over
  seconds_add_up known = how_many_both (is_present states) (is_missing states) (length states) (λ i h. present_or_missing (get_or states i 0) (known i h))

  -- a tally of no more seconds than a trip has leaves room, whatever the lanes hold
  module _ (small_speeds : (k : ℕ) → get_or speeds k 0 < 2 ^ 16) (small_co2 : (k : ℕ) → get_or co2 k 0 < 2 ^ 32) (small_nox : (k : ℕ) → get_or nox k 0 < 2 ^ 32) where
    mass_below : (state mass : ℕ) → mass < 2 ^ 32 → mass_of state mass ≤ 2 ^ 32
    mass_below state mass h = both_ways (λ v. v ≤ 2 ^ 32) (eqb state measured) (omega arith) (omega arith)

    pub tally_room : (in_set : ℕ → Bool) (i : ℕ) → i ≤ trip_limit → Room (tally_over states speeds co2 nox in_set i)
    unfolding tally_over
    tally_room in_set i few =
        record {
          seconds = omega (arith, how_many_at_most in_set i);
          distance = omega (arith, sum_over_at_most in_set (λ k. get_or speeds k 0) 65_535 (λ k. omega (arith, small_speeds k)) i);
          co2 = omega (arith, sum_over_at_most in_set _ (2 ^ 32) (λ k. mass_below (get_or states k 0) (get_or co2 k 0) (small_co2 k)) i);
          nox = omega (arith, sum_over_at_most in_set _ (2 ^ 32) (λ k. mass_below (get_or states k 0) (get_or nox k 0) (small_nox k)) i);
        }

    -- and so does the trip's
    pub total_room : (n : ℕ) → n ≤ trip_limit → Room (added (bin_tallies_after states speeds co2 nox n))
    total_room n few = rw first_add_up (tally_room (is_present states) n few)

    pub bin_room : (i speed : ℕ) → i ≤ trip_limit → Room (get_or (bin_tallies_after states speeds co2 nox i) (bin_of speed) no_seconds)
    unfolding bin_tallies_after bin_of
    bin_room i speed few = go (leb speed 6_000) (leb speed 9_000)
      where
        go : (low middle : Bool) → Room (get_or (bin_tallies_after states speeds co2 nox i) (pick low urban (pick middle rural motorway)) no_seconds)
        go true middle = tally_room (is_in_bin states speeds urban) i few
        go false true = tally_room (is_in_bin states speeds rural) i few
        go false false = tally_room (is_in_bin states speeds motorway) i few
