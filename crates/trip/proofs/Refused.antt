-- Refused exactly when: each number and place is given exactly when its condition holds and none before it in the order does.
-- Assumes nothing.
use Prim.Native.Nat.{ℕ, ◌≤◌}
use mathlib.Core.Path.{◌≡◌, refl, ◌∙◌, ap}
use mathlib.Core.Bool.{false}
use mathlib.Core.Logic.{◌↔◌}
use borrow.Author.Tests.{ltb-true, ltb-false, lt-ltb, le-ltb}
use Rattle.std.specs.Bool.{Decides}
use Rattle.std.proofs.lemmas.Bool.Decides.{Decides-or, Decides-ltb}
use Rattle.base.specs.declared.Plan.{Plan}
use Rattle.base.specs.Limits.{trip_limit}
use Rattle.base.specs.Refusal.{Fault, out_of_range, fault}
use Rattle.base.specs.Second.{too_many}
use Rattle.second.specs.Lanes.{Lanes, seconds_in, first_bad_second}
use Rattle.second.proofs.Lanes.{agree, agrees, not_agree, apart}
use Rattle.second.proofs.Facts.{first_bad_at, is_first_bad, has_bad, all_in_range, has_no_bad, says_none, some_second, says_some}
use Rattle.second.proofs.Facts as facts
use Rattle.trip.specs.declared.Rooms.{Rooms}
use Rattle.trip.specs.Refusals.{too_short, trip_fault, is_accepted}
use Rattle.trip.specs.Trip.{answer_of, refused, answer_from}
use Rattle.trip.specs.Outcomes.{Places, TooShort, Given, if_plan_out_of_range, if_lanes_differ, if_too_many, if_lane_too_short, if_out_of_range, if_no_second, none}
use Rattle.trip.proofs.Chain.{gives_plan, gives_differ, gives_many, gives_short, gives_bad, gives_none, gives_accepted}
use Rattle.trip.proofs.Passed.{places, Outcome, outcome}

-- ---- each test says its condition
says_short : (rooms : Rooms) (n : ℕ) → Decides (too_short rooms n) (TooShort rooms n)
unfolding too_short
says_short rooms n =
    Decides-or _ _ (Decides-or _ _ (Decides-or _ _ (Decides-ltb rooms.speeds n) (Decides-ltb rooms.co2 n)) (Decides-ltb rooms.ends n)) (Decides-ltb rooms.ranks n)

room_enough : (rooms : Rooms) (n : ℕ) → Places rooms n → too_short rooms n ≡ false
unfolding too_short
room_enough rooms n p =
    rw (le-ltb _ _ p.for_speeds, le-ltb _ _ p.for_co2, le-ltb _ _ p.for_ends, le-ltb _ _ p.for_ranks) refl

module _ (plan : Plan) (trip : Lanes) (rooms : Rooms) where
  -- what the chain of tests gives is given
  is_given : Given plan trip rooms (trip_fault plan trip rooms)
  is_given = go (trip_fault plan trip rooms) (outcome plan trip rooms)
    where
      few : too_many (seconds_in trip) ≡ false → seconds_in trip ≤ trip_limit
      few r = ltb-false trip_limit (seconds_in trip) r

      go : (x : Fault) → Outcome plan trip rooms x → Given plan trip rooms x
      go _ (Outcome.bad_plan p) = if_plan_out_of_range p
      go _ (Outcome.if_lanes_differ p q) = if_lanes_differ p (not_agree trip q)
      go _ (Outcome.if_too_many p q r) = if_too_many p (agree trip q) (ltb-true trip_limit (seconds_in trip) r)
      go _ (Outcome.if_too_short p q r s) = if_lane_too_short p (agree trip q) (few r) ((says_short rooms (seconds_in trip)).0 s)
      go _ (Outcome.bad_second p q r s t) = if_out_of_range p (agree trip q) (few r) (places rooms (seconds_in trip) s) (first_bad_second trip) (first_bad_at trip t)
      go _ (Outcome.if_no_second p q r s t u) = if_no_second p (agree trip q) (few r) (places rooms (seconds_in trip) s) (all_in_range trip t) (facts.no_second_lem trip u)
      go _ (Outcome.fine p q r s t u) = none p (agree trip q) (few r) (places rooms (seconds_in trip) s) (all_in_range trip t) (some_second trip u)

  -- and nothing else is
  only_given : (x : Fault) → Given plan trip rooms x → trip_fault plan trip rooms ≡ x
  only_given _ (if_plan_out_of_range p) = gives_plan plan trip rooms p
  only_given _ (if_lanes_differ p q) = gives_differ plan trip rooms p (apart trip q)
  only_given _ (if_too_many p q r) = gives_many plan trip rooms p (agrees trip q) (lt-ltb trip_limit (seconds_in trip) r)
  only_given _ (if_lane_too_short p q r s) = gives_short plan trip rooms p (agrees trip q) (le-ltb trip_limit (seconds_in trip) r) ((says_short rooms (seconds_in trip)).1 s)
  only_given _ (if_out_of_range p q r s i t) = gives_bad plan trip rooms p (agrees trip q) (le-ltb trip_limit (seconds_in trip) r) (room_enough rooms (seconds_in trip) s) (has_bad trip i t) ∙ ap (fault out_of_range) (is_first_bad trip i t)
  only_given _ (if_no_second p q r s t u) = gives_none plan trip rooms p (agrees trip q) (le-ltb trip_limit (seconds_in trip) r) (room_enough rooms (seconds_in trip) s) (has_no_bad trip t) (says_none trip u)
  only_given _ (none p q r s t u) = gives_accepted plan trip rooms p (agrees trip q) (le-ltb trip_limit (seconds_in trip) r) (room_enough rooms (seconds_in trip) s) (has_no_bad trip t) (says_some trip u)

  -- the call gives a number and a place exactly when the conditions of that row hold
  pub refused_exactly : (x : Fault) → (trip_fault plan trip rooms ≡ x) ↔ Given plan trip rooms x
  refused_exactly x = (λ e. rw e at is_given, only_given x)

  -- the answer's number and place are those of the chain of tests
  pub answer_fault : fault (answer_of plan trip rooms).refusal (answer_of plan trip rooms).place ≡ trip_fault plan trip rooms
  unfolding answer_of is_accepted refused answer_from
  answer_fault = go (trip_fault plan trip rooms) refl (outcome plan trip rooms)
    where
      go : (x : Fault) → trip_fault plan trip rooms ≡ x → Outcome plan trip rooms x → fault (answer_of plan trip rooms).refusal (answer_of plan trip rooms).place ≡ trip_fault plan trip rooms
      go _ e (Outcome.bad_plan p) = rw e refl
      go _ e (Outcome.if_lanes_differ p q) = rw e refl
      go _ e (Outcome.if_too_many p q r) = rw e refl
      go _ e (Outcome.if_too_short p q r s) = rw e refl
      go _ e (Outcome.bad_second p q r s t) = rw e refl
      go _ e (Outcome.if_no_second p q r s t u) = rw e refl
      go _ e (Outcome.fine p q r s t u) = rw e refl
