-- The lanes that are lent to a whole trip, before the call and after it: it "writes the kept and end lanes too, each needing a place
-- per second", beside the "lent ranking lane".
use Rattle.std.specs.Prelude.{ℕ, ◌≡◌, List, length, get_or}
use Rattle.base.specs.declared.Plan.{Plan}
use Rattle.base.specs.InFront.{InFront}
use Rattle.base.specs.Words.{pick, with_front}
use Rattle.second.specs.Lanes.{Lanes}
use Rattle.sweep.specs.Window.{has_window, window_end}
use Rattle.found.specs.Found as found
use Rattle.dynamics.specs.Dynamics.{ranked_products, ranks_of}
use Rattle.trip.specs.declared.Rooms.{Rooms}
use Rattle.trip.specs.declared.Workspace.{Workspace}
use Rattle.trip.specs.Refusals.{is_accepted}

pub record Lent : Type 0 where
  pub kept_speed_values : List ℕ
  pub kept_co2_values : List ℕ
  pub ends : List ℕ
  pub ranks : List ℕ

abbrev pub lent_of : List ℕ → List ℕ → List ℕ → List ℕ → Lent
lent_of kept_speed_values kept_co2_values ends ranks = record { kept_speed_values = kept_speed_values; kept_co2_values = kept_co2_values; ends = ends; ranks = ranks }

-- those that a caller in Rust lends as one struct, as they stand
abbrev pub lent_in : Workspace → Lent
lent_in work = lent_of work.kept_speeds.now work.kept_co2.now work.ends.now work.ranks.now

-- how many places they have
abbrev pub rooms_in : Lent → Rooms
rooms_in lent =
    record {
      speeds = length lent.kept_speed_values;
      co2 = length lent.kept_co2_values;
      ends = length lent.ends;
      ranks = length lent.ranks;
    }

module _ (plan : Plan) (trip : Lanes) where
  abbrev kept_speed_values : List ℕ
  kept_speed_values = found.kept_speed_values trip.states trip.speeds

  abbrev kept_co2_values : List ℕ
  kept_co2_values = found.kept_co2_values trip.states trip.speeds trip.co2

  -- of an accepted trip: kept speeds and masses in front; the end of each window in the place of its first second, "with the sweep
  -- run to its end"; "urban, then rural, then motorway products, each ascending, the rest unchanged"
  unfoldable pub lent_written : Lent → Lent
  lent_written lent =
      record {
        kept_speed_values = with_front kept_speed_values lent.kept_speed_values;
        kept_co2_values = with_front kept_co2_values lent.kept_co2_values;
        ends = found.ends_of plan trip.states trip.speeds trip.co2 lent.ends;
        ranks = ranks_of trip.states trip.speeds lent.ranks;
      }

  -- a refusal "writes into no lane"
  unfoldable pub lent_left : Lent → Lent
  lent_left lent = pick (is_accepted plan trip (rooms_in lent)) (lent_written lent) lent

  -- "An accepted call changes only the places named for it": the lanes after one, place by place
  pub record Leaves (before after : Lent) : Type 0 where
    pub speeds_in_front : InFront kept_speed_values (length kept_speed_values) before.kept_speed_values after.kept_speed_values
    pub co2_in_front : InFront kept_co2_values (length kept_co2_values) before.kept_co2_values after.kept_co2_values
    pub window_ends : (f : ℕ) → get_or after.ends f 0 ≡ pick (has_window plan.reference kept_co2_values f) (window_end plan.reference kept_co2_values f) (get_or before.ends f 0)
    pub ends_long : length after.ends ≡ length before.ends
    pub ranked : InFront (ranked_products trip.states trip.speeds) (length (ranked_products trip.states trip.speeds)) before.ranks after.ranks
