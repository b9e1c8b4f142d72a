-- The outcomes of the refusals of a trip, and what an accepted one may take for granted. Assumes nothing.
use Prim.Native.Nat.{ℕ, ◌≤◌, ◌<◌}
use mathlib.Core.Path.{◌≡◌, refl}
use mathlib.Core.Bool.{Bool, true, false, not, ◌||◌}
use mathlib.Core.List.{List}
use native.Mathlib.Omega.{arith}
use borrow.Author.Tests.{ltb-false, leb-true, eqb-false, eq-eqb, ne_eqb}
use lib.Dec.{leb, ltb, eqb}
use lib.ListN.{length, get_or}
use lib.IntN.{pos}
use Rattle.base.specs.declared.Plan.{Plan}
use Rattle.base.specs.Limits.{trip_limit, speed_most, co2_most}
use Rattle.base.specs.Plan.{plan_in_range}
use Rattle.base.specs.Refusal.{Fault, accepted, lanes_differ, too_many_values, out_of_range, no_second, plan_out_of_range, lane_too_short, fault}
use Rattle.base.specs.Second.{measured, too_many, state_known, altitude_in_range}
use Rattle.second.specs.Row.{has_values, values_in_range, row_in_range}
use Rattle.second.proofs.Values.{each_value}
use Rattle.second.specs.Lanes.{Lanes, row_at, seconds_in, lanes_agree, second_in_range, first_bad_second, none_has_values}
use Rattle.second.specs.Facts.{SameLengths}
use Rattle.base.proofs.Tests.{and_left, and_right, or_left, or_right}
use Rattle.second.proofs.Lanes.{agree, each_in_range}
use Rattle.kept.specs.Kept.{second_kept}
use Rattle.found.specs.Inside.{Findable}
use Rattle.bins.specs.Inside.{BinLanes}
use Rattle.climb.specs.Inside.{ClimbLanes}
use Rattle.trip.specs.declared.Rooms.{Rooms}
use Rattle.trip.specs.Refusals.{too_short, trip_fault, is_accepted}
use Rattle.trip.specs.Outcomes.{Places}
use Rattle.trip.proofs.Chain.{gives_plan, gives_differ, gives_many, gives_short, gives_bad, gives_none, gives_accepted}

pub places : (rooms : Rooms) (n : ℕ) → too_short rooms n ≡ false → Places rooms n
unfolding too_short
places rooms n h =
    let s = ltb rooms.speeds n in
    let c = ltb rooms.co2 n in
    let e = ltb rooms.ends n in
    let k = ltb rooms.ranks n in
    let three = or_left (s || c || e) k h in
    let two = or_left (s || c) e three in
    record {
      for_speeds = ltb-false _ _ (or_left s c two);
      for_co2 = ltb-false _ _ (or_right s c two);
      for_ends = ltb-false _ _ (or_right (s || c) e three);
      for_ranks = ltb-false _ _ (or_right (s || c || e) k h);
    }

module _ (plan : Plan) (trip : Lanes) (rooms : Rooms) where
  -- a trip that is accepted
  pub record Accepted : Type 0 where
    pub plan_is_in_range : plan_in_range plan ≡ true
    pub lanes : SameLengths trip
    pub few : seconds_in trip ≤ trip_limit
    pub room : Places rooms (seconds_in trip)
    pub in_range : (i : ℕ) → i < seconds_in trip → second_in_range trip i ≡ true
    pub some : none_has_values trip.states ≡ false

  -- the seven outcomes, in the order of the refusals, each with its number and place
  pub data Outcome : Fault → Type 0 where
    bad_plan : plan_in_range plan ≡ false → Outcome (fault plan_out_of_range 0)
    if_lanes_differ : plan_in_range plan ≡ true → lanes_agree trip ≡ false → Outcome (fault lanes_differ 0)
    if_too_many : plan_in_range plan ≡ true → lanes_agree trip ≡ true → too_many (seconds_in trip) ≡ true → Outcome (fault too_many_values 0)
    if_too_short : plan_in_range plan ≡ true → lanes_agree trip ≡ true → too_many (seconds_in trip) ≡ false → too_short rooms (seconds_in trip) ≡ true → Outcome (fault lane_too_short 0)
    bad_second : plan_in_range plan ≡ true → lanes_agree trip ≡ true → too_many (seconds_in trip) ≡ false → too_short rooms (seconds_in trip) ≡ false → ltb (first_bad_second trip) (seconds_in trip) ≡ true → Outcome (fault out_of_range (first_bad_second trip))
    if_no_second : plan_in_range plan ≡ true → lanes_agree trip ≡ true → too_many (seconds_in trip) ≡ false → too_short rooms (seconds_in trip) ≡ false → ltb (first_bad_second trip) (seconds_in trip) ≡ false → none_has_values trip.states ≡ true → Outcome (fault no_second 0)
    fine : plan_in_range plan ≡ true → lanes_agree trip ≡ true → too_many (seconds_in trip) ≡ false → too_short rooms (seconds_in trip) ≡ false → ltb (first_bad_second trip) (seconds_in trip) ≡ false → none_has_values trip.states ≡ false → Outcome (fault accepted 0)

  pub outcome : Outcome (trip_fault plan trip rooms)
  outcome =
      go (plan_in_range plan) refl (lanes_agree trip) refl (too_many (seconds_in trip)) refl (too_short rooms (seconds_in trip)) refl (ltb (first_bad_second trip) (seconds_in trip)) refl (none_has_values trip.states) refl
    where
      go :
          (a : Bool) → plan_in_range plan ≡ a →
          (b : Bool) → lanes_agree trip ≡ b →
          (c : Bool) → too_many (seconds_in trip) ≡ c →
          (d : Bool) → too_short rooms (seconds_in trip) ≡ d →
          (e : Bool) → ltb (first_bad_second trip) (seconds_in trip) ≡ e →
          (f : Bool) → none_has_values trip.states ≡ f →
          Outcome (trip_fault plan trip rooms)
      go false p b q c r d s e t f u = rw (gives_plan plan trip rooms p) (bad_plan p)
      go true p false q c r d s e t f u = rw (gives_differ plan trip rooms p q) (if_lanes_differ p q)
      go true p true q true r d s e t f u = rw (gives_many plan trip rooms p q r) (if_too_many p q r)
      go true p true q false r true s e t f u = rw (gives_short plan trip rooms p q r s) (if_too_short p q r s)
      go true p true q false r false s true t f u = rw (gives_bad plan trip rooms p q r s t) (bad_second p q r s t)
      go true p true q false r false s false t true u = rw (gives_none plan trip rooms p q r s t u) (if_no_second p q r s t u)
      go true p true q false r false s false t false u = rw (gives_accepted plan trip rooms p q r s t u) (fine p q r s t u)

  -- a call with number 0 passed every test
  pub passed : (trip_fault plan trip rooms).number ≡ accepted → Accepted
  passed zero_number = go (trip_fault plan trip rooms) outcome zero_number
    where
      go : (x : Fault) → Outcome x → x.number ≡ accepted → Accepted
      go _ (bad_plan p) e = absurd (eqb-false plan_out_of_range accepted refl e)
      go _ (if_lanes_differ p q) e = absurd (eqb-false lanes_differ accepted refl e)
      go _ (if_too_many p q r) e = absurd (eqb-false too_many_values accepted refl e)
      go _ (if_too_short p q r s) e = absurd (eqb-false lane_too_short accepted refl e)
      go _ (bad_second p q r s t) e = absurd (eqb-false out_of_range accepted refl e)
      go _ (if_no_second p q r s t u) e = absurd (eqb-false no_second accepted refl e)
      go _ (fine p q r s t u) e =
          record {
            plan_is_in_range = p;
            lanes = agree trip q;
            few = ltb-false trip_limit (seconds_in trip) r;
            room = places rooms (seconds_in trip) s;
            in_range = each_in_range trip (ltb-false (first_bad_second trip) (seconds_in trip) t);
            some = u;
          }

  pub is_accepted_lem : (trip_fault plan trip rooms).number ≡ accepted → is_accepted plan trip rooms ≡ true
  unfolding is_accepted
  is_accepted_lem e = eq-eqb _ _ e

  pub is_refused : ((trip_fault plan trip rooms).number ≡ accepted → ⊥) → is_accepted plan trip rooms ≡ false
  unfolding is_accepted
  is_refused e = ne_eqb _ _ e

-- a second in state 1 or 3 has values in range
module _ (trip : Lanes) (i : ℕ) (good : second_in_range trip i ≡ true) (has : has_values (get_or trip.states i 0) ≡ true) where
  values_are_in_range : values_in_range (row_at trip i) ≡ true
  unfolding second_in_range row_in_range
  values_are_in_range =
      let rest = and_right (state_known (get_or trip.states i 0)) (not (has_values (get_or trip.states i 0)) || values_in_range (row_at trip i)) good in
      rw has at rest

  pub altitude_is_in_range : altitude_in_range (get_or trip.altitudes i (pos 0)) ≡ true
  altitude_is_in_range = (each_value (row_at trip i) values_are_in_range).altitude

-- so has a kept second
module _ (trip : Lanes) (i : ℕ) (good : second_in_range trip i ≡ true) (kept : second_kept (get_or trip.states i 0) (get_or trip.speeds i 0) ≡ true) where
  is_measured : eqb (get_or trip.states i 0) measured ≡ true
  is_measured = and_left (eqb (get_or trip.states i 0) measured) (leb 100 (get_or trip.speeds i 0)) kept

  all_in_range : values_in_range (row_at trip i) ≡ true
  unfolding has_values
  all_in_range = values_are_in_range trip i good (rw is_measured refl)

  pub kept_speed_in_range : get_or trip.speeds i 0 ≤ speed_most
  kept_speed_in_range = leb-true _ _ (each_value (row_at trip i) all_in_range).speed

  pub kept_co2_in_range : get_or trip.co2 i 0 ≤ co2_most
  kept_co2_in_range = leb-true _ _ (each_value (row_at trip i) all_in_range).co2

-- what the parts of the evaluation ask, of an accepted trip
module _ {plan : Plan} {trip : Lanes} {rooms : Rooms} (ok : Accepted plan trip rooms) where
  pub findable : Findable plan trip.states trip.speeds trip.co2 rooms.speeds rooms.co2 rooms.ends
  findable =
      record {
        plan_is_in_range = ok.plan_is_in_range;
        speeds_agree = ok.lanes.speeds;
        co2_agree = ok.lanes.co2;
        few = ok.few;
        speeds_room = ok.room.for_speeds;
        co2_room = ok.room.for_co2;
        ends_room = ok.room.for_ends;
        speeds_in_range = λ i h kept. kept_speed_in_range trip i (ok.in_range i h) kept;
        co2_is_in_range = λ i h kept. kept_co2_in_range trip i (ok.in_range i h) kept;
      }

  pub bin_lanes : (ranks : List ℕ) → rooms.ranks ≡ length ranks → BinLanes trip.states trip.speeds trip.co2 trip.nox ranks
  bin_lanes ranks same =
      record {
        speeds_agree = ok.lanes.speeds;
        co2_agree = ok.lanes.co2;
        nox_agree = ok.lanes.nox;
        few = ok.few;
        room = omega (arith, ok.room.for_ranks);
      }

  pub climb_lanes : ClimbLanes trip.states trip.speeds trip.altitudes
  climb_lanes =
      record {
        recorded = record { altitudes_agree = ok.lanes.altitudes; in_range = λ i h has. altitude_is_in_range trip i (ok.in_range i h) has };
        speeds_agree = ok.lanes.speeds;
        few = ok.few;
      }
