-- What the program prints: what is said of one stream read whole.
use Rattle.std.specs.Prelude.{ℕ, ◌≡◌, List}
use Rattle.base.specs.Words.{with_front}
use Rattle.item.specs.Format.{Bytes}
use Rattle.stream.specs.Reading.{read_of, lane_after}
use Rattle.second.specs.Lanes.{Lanes, each_lane}
use Rattle.trip.specs.declared.Rooms.{Rooms}
use Rattle.printed.specs.Printed.{printed_text}

-- the places of each lane that the program lends: "no lane of it passes 64 KiB"
abbrev pub places_lent : ℕ
places_lent = 8_192

-- the text at the front of a buffer is what the whole-stream call, the evaluation and the report say of one stream
pub record JudgedAsOne (lanes : Lanes) (rooms : Rooms) (before after : List ℕ) : Type 0 where
  pub stream : List ℕ
  pub bytes : Bytes stream
  pub text : after ≡ with_front (printed_text (read_of places_lent stream) (each_lane (λ A value. lane_after value places_lent stream) lanes) rooms) before
