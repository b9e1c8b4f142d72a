-- What one read promises.
use Rattle.std.specs.Prelude.{ℕ, ◌≡◌, List}
use Rattle.second.specs.Lanes.{Lanes, room_in, each_lane}
use Rattle.reader.specs.declared.Reader.{Reader}
use Rattle.reader.specs.Blocks.{reader_after, lane_with}
use Rattle.input.specs.Input.{Block}

-- the bytes that came were fed to the reader, once, and their seconds stand in the lanes
pub record HasFed (before : Lanes) (r : Reader) (came : List ℕ) (next : Reader) (after : Lanes) : Type 0 where
  pub block : Block came
  pub reader : next ≡ reader_after (room_in before) r came
  pub lanes : after ≡ each_lane (λ A value. lane_with value (room_in before) r came) before
