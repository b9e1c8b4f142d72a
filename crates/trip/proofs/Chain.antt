-- The refusals of a trip one after the other: what each test gives where those before it passed. Assumes nothing.
use mathlib.Core.Path.{◌≡◌, refl}
use mathlib.Core.Bool.{true, false}
use lib.Dec.{ltb}
use Rattle.base.specs.declared.Plan.{Plan}
use Rattle.base.specs.Plan.{plan_in_range}
use Rattle.base.specs.Refusal.{accepted, lanes_differ, too_many_values, out_of_range, no_second, plan_out_of_range, lane_too_short, fault}
use Rattle.base.specs.Second.{too_many}
use Rattle.second.specs.Lanes.{Lanes, seconds_in, lanes_agree, first_bad_second, none_has_values}
use Rattle.trip.specs.declared.Rooms.{Rooms}
use Rattle.trip.specs.Refusals.{too_short, trip_fault}

module _ (plan : Plan) (trip : Lanes) (rooms : Rooms) where
  pub gives_plan : plan_in_range plan ≡ false → trip_fault plan trip rooms ≡ fault plan_out_of_range 0
  unfolding trip_fault
  gives_plan p = rw p refl

  module _ (p : plan_in_range plan ≡ true) where
    pub gives_differ : lanes_agree trip ≡ false → trip_fault plan trip rooms ≡ fault lanes_differ 0
    unfolding trip_fault
    gives_differ q = rw (p, q) refl

    module _ (q : lanes_agree trip ≡ true) where
      pub gives_many : too_many (seconds_in trip) ≡ true → trip_fault plan trip rooms ≡ fault too_many_values 0
      unfolding trip_fault
      gives_many r = rw (p, q, r) refl

      module _ (r : too_many (seconds_in trip) ≡ false) where
        pub gives_short : too_short rooms (seconds_in trip) ≡ true → trip_fault plan trip rooms ≡ fault lane_too_short 0
        unfolding trip_fault
        gives_short s = rw (p, q, r, s) refl

        module _ (s : too_short rooms (seconds_in trip) ≡ false) where
          pub gives_bad : ltb (first_bad_second trip) (seconds_in trip) ≡ true → trip_fault plan trip rooms ≡ fault out_of_range (first_bad_second trip)
          unfolding trip_fault
          gives_bad t = rw (p, q, r, s, t) refl

          module _ (t : ltb (first_bad_second trip) (seconds_in trip) ≡ false) where
            pub gives_none : none_has_values trip.states ≡ true → trip_fault plan trip rooms ≡ fault no_second 0
            unfolding trip_fault
            gives_none u = rw (p, q, r, s, t, u) refl

            pub gives_accepted : none_has_values trip.states ≡ false → trip_fault plan trip rooms ≡ fault accepted 0
            unfolding trip_fault
            gives_accepted u = rw (p, q, r, s, t, u) refl
