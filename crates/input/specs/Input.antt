-- The reading of the input, read by read.
use Rattle.std.specs.Prelude.{ℕ, ◌≤◌, ◌≡◌, Bool, not, ◌&&◌, List, [], eqb, length, get_or}
use Rattle.base.specs.Refusal.{accepted}
use Rattle.item.specs.Format.{Bytes}
use Rattle.reader.specs.declared.Reader.{Reader}
use Rattle.reader.specs.Reader.{started}
use Rattle.reader.specs.Blocks.{fed_all, lane_all}
use Rattle.second.specs.Lanes.{Lanes, room_in, each_lane}
use Rattle.input.specs.declared.Input.{Input}

-- ---- one read
-- "The program reads in blocks of at most 4,096 bytes"
abbrev pub block_most : ℕ
block_most = 4_096

-- what a read can bring
pub record Block (came : List ℕ) : Type 0 where
  pub bytes : Bytes came
  pub most : length came ≤ block_most

-- whether more bytes can come and change the answer: the read brought some, and no bad item has settled it
abbrev pub reads_on : Input → Bool
reads_on input = not (eqb input.came 0) && eqb input.reader.refusal accepted

-- ---- all reads
-- the blocks that came were fed to a reader one after the other, from its start
pub record HasRead (before : Lanes) (r : Reader) (after : Lanes) : Type 0 where
  pub blocks : List (List ℕ)
  pub each : (i : ℕ) → Block (get_or blocks i [])
  pub reader : r ≡ fed_all (room_in before) started blocks
  pub lanes : after ≡ each_lane (λ A value. lane_all value (room_in before) started blocks) before
