-- What is printed for a trip stream: the stream's refusal, or else the trip's, or the six lines.
use Rattle.std.specs.Prelude.{ℕ, List, eqb, take, get_or}
use Rattle.base.specs.Refusal.{accepted}
use Rattle.base.specs.Roads.{urban, rural, motorway}
use Rattle.base.specs.Words.{pick}
use Rattle.stream.specs.declared.ReadAnswer.{ReadAnswer}
use Rattle.second.specs.Lanes.{Lanes, each_lane}
use Rattle.windows.specs.declared.ClassCount.{ClassCount}
use Rattle.windows.specs.Counts.{no_count}
use Rattle.trip.specs.declared.Evaluated.{Evaluated}
use Rattle.trip.specs.declared.Rooms.{Rooms}
use Rattle.trip.specs.Trip.{answer_of}
use Rattle.trip.specs.Lent.{Lent, lent_left}
use Rattle.report.specs.declared.ClassLine.{ClassLine}
use Rattle.report.specs.declared.Judged.{Judged}
use Rattle.report.specs.Lines.{judged_text, refusal_text}

-- the trip of the first n seconds in the lanes
abbrev pub first_seconds : ℕ → Lanes → Lanes
first_seconds n = each_lane (λ A value lane. take n lane)

-- "Class lines: windows, windows inside."
abbrev pub class_line_of : ClassCount → ClassLine
class_line_of class = record { windows = class.windows; inside = class.inside }

-- "Line 1: all seconds, missing, kept; line 2: windows, unclassed ones too, and moves." The classes stand in the order of the bins.
unfoldable pub lines_of : Evaluated → Judged
lines_of trip =
    record {
      seconds = trip.seconds;
      missing = trip.missing;
      kept = trip.kept;
      windows = trip.windows;
      moves = trip.moves;
      urban = class_line_of (get_or trip.classes urban no_count);
      rural = class_line_of (get_or trip.classes rural no_count);
      motorway = class_line_of (get_or trip.classes motorway no_count);
      reasons = trip.verdict;
    }

-- what is printed of a trip's answer: "A refusal prints only `refused R at P`."
unfoldable pub trip_text : Evaluated → List ℕ
trip_text trip = pick (eqb trip.refusal accepted) (judged_text (lines_of trip)) (refusal_text trip.refusal trip.place)

module _ (read : ReadAnswer) (lanes : Lanes) where
  -- the trip that was read into the lanes
  abbrev trip_read : Lanes
  trip_read = first_seconds read.seconds lanes

  -- the stream's refusal, or else what is printed of the trip that was read
  unfoldable pub printed_text : Rooms → List ℕ
  printed_text rooms =
      pick (eqb read.refusal accepted)
      (trip_text (answer_of read.plan trip_read rooms))
      (refusal_text read.refusal read.place)

  -- the lent lanes afterwards: as the evaluation leaves them, where the stream is not refused
  unfoldable pub lent_after : Lent → Lent
  lent_after lent = pick (eqb read.refusal accepted) (lent_left read.plan trip_read lent) lent
