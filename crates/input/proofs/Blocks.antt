-- One block more, after those that were fed. Assumes nothing.
use Prim.Native.Nat.{ℕ, zero, suc, ◌<◌}
use mathlib.Core.Path.{◌≡◌, refl, sym, ◌∙◌, ap}
use mathlib.Core.List.{List, [], ◌∷◌, ◌++◌, map, flatten}
use native.Mathlib.Omega.{arith}
use native.Mathlib.Nat.{min-le_right}
use lib.ListN.{length, get_or, take, length-take}
use lib.Seq.{length-sets}
use Rattle.item.specs.Format.{Bytes}
use Rattle.item.proofs.Encoding.{no_bytes, append-bytes, take-bytes}
use Rattle.second.specs.declared.Row.{Row}
use Rattle.reader.specs.declared.Reader.{Reader}
use Rattle.reader.specs.Reader.{carry_places, started}
use Rattle.reader.specs.Blocks.{reader_after, seconds_added, lane_with, fed_all, lane_all}
use Rattle.reader.proofs.EachLane.{each_same, each_long}
use Rattle.reader.proofs.Making.{start_made, start_places, feeding_places}
use Rattle.reader.proofs.Whole.{fed_all_lem}
use Rattle.blocks.specs.Inside.{written}
use Rattle.second.specs.Lanes.{Lanes, room_in, each_lane}
use Rattle.second.proofs.EachLane.{Long, same_room}
use Rattle.input.specs.Inside.{HasFed}
use Rattle.input.specs.Input.{block_most, Block, HasRead}

-- ---- a read
pub no_block : Block []
no_block = record { bytes = no_bytes; most = omega arith }

-- that brought a block
pub block_of : (n : ℕ) (block : List ℕ) → length block ≡ block_most → ((i : ℕ) → get_or block i 0 < 256) → Block (take n block)
block_of n block long bytes =
    record { bytes = take-bytes n block bytes; most = rw (length-take n block) (omega (arith, min-le_right n (length block))) }

-- and was fed
pub has_fed : (before : Lanes) (r : Reader) {came : List ℕ} {next : Reader} {after : Lanes} → Block came → next ≡ reader_after (room_in before) r came → after ≡ written r.seconds (seconds_added (room_in before) r came) before → HasFed before r came next after
unfolding written lane_with
has_fed before r block is left = record { block = block; reader = is; lanes = left }

-- ---- all reads
-- before the first
pub has_read_nothing : (lanes : Lanes) (r : Reader) → r ≡ started → HasRead lanes r lanes
unfolding fed_all lane_all
has_read_nothing lanes r is = record { blocks = []; each = λ i. no_block; reader = is; lanes = refl }

-- a property of each block
each_more : (P : List ℕ → Type 0) (none : P []) (last : List ℕ) → P last → (blocks : List (List ℕ)) → ((i : ℕ) → P (get_or blocks i [])) → (i : ℕ) → P (get_or (blocks ++ last ∷ []) i [])
each_more P none last p [] each zero = p
each_more P none last p [] each (suc i) = none
each_more P none last p (block ∷ blocks) each zero = each 0
each_more P none last p (block ∷ blocks) each (suc i) = each_more P none last p blocks (λ j. each (suc j)) i

-- the reader and a lane
module _ (room : ℕ) (last : List ℕ) where
  fed_more : (blocks : List (List ℕ)) (r : Reader) → fed_all room r (blocks ++ last ∷ []) ≡ reader_after room (fed_all room r blocks) last
  unfolding fed_all
  fed_more [] r = refl
  fed_more (block ∷ blocks) r = fed_more blocks (reader_after room r block)

  lane_more : (A : Type 0) (value : Row → A) (blocks : List (List ℕ)) (r : Reader) (lane : List A) → lane_all value room r (blocks ++ last ∷ []) lane ≡ lane_with value room (fed_all room r blocks) last (lane_all value room r blocks lane)
  unfolding fed_all lane_all
  lane_more A value [] r lane = refl
  lane_more A value (block ∷ blocks) r lane = lane_more A value blocks (reader_after room r block) (lane_with value room r block lane)

lane_long : (room : ℕ) (A : Type 0) (value : Row → A) (blocks : List (List ℕ)) (r : Reader) (lane : List A) → length (lane_all value room r blocks lane) ≡ length lane
unfolding lane_all lane_with
lane_long room A value [] r lane = refl
lane_long room A value (block ∷ blocks) r lane = lane_long room A value blocks (reader_after room r block) (lane_with value room r block lane) ∙ length-sets lane r.seconds (map value (seconds_added room r block))

-- the lanes keep their lengths
pub read_long : (before : Lanes) (r : Reader) (after : Lanes) → HasRead before r after → Long before after
read_long before r after read =
    rw read.lanes (each_long (λ A value. lane_all value (room_in before) started read.blocks) before (λ A value lane. lane_long (room_in before) A value read.blocks started lane))

-- after one more
pub has_read_more : (before : Lanes) (r : Reader) (between : Lanes) (came : List ℕ) (next : Reader) (after : Lanes) → HasRead before r between → HasFed between r came next after → HasRead before next after
has_read_more before r between came next after read fed =
    let room = room_in before in
    let blocks = read.blocks in
    let same = same_room (read_long before r between read) in
    record {
      blocks = blocks ++ came ∷ [];
      each = each_more Block no_block came fed.block blocks read.each;
      reader =
          fed.reader
          ∙ ap (λ (n : ℕ). reader_after n r came) same
          ∙ ap (λ (q : Reader). reader_after room q came) read.reader
          ∙ sym (fed_more room came blocks started);
      lanes =
          fed.lanes
          ∙ ap (λ (n : ℕ). each_lane (λ A value. lane_with value n r came) between) same
          ∙ ap (λ (q : Reader). each_lane (λ A value. lane_with value room q came) between) read.reader
          ∙ ap (λ (lanes : Lanes). each_lane (λ A value. lane_with value room (fed_all room started blocks) came) lanes) read.lanes
          ∙ sym (each_same (λ A value. lane_all value room started (blocks ++ came ∷ [])) (λ A value lane. lane_with value room (fed_all room started blocks) came (lane_all value room started blocks lane)) before (λ A value lane fits. lane_more room came A value blocks started lane));
    }

-- the places of the reader's carry
pub read_places : (before : Lanes) (r : Reader) (after : Lanes) → HasRead before r after → length r.held ≡ carry_places
read_places before r after read =
    ap (λ (q : Reader). length q.held) (read.reader ∙ fed_all_lem (room_in before) read.blocks started start_made start_places)
    ∙ feeding_places (room_in before) started (flatten read.blocks) start_places

-- ---- the stream that came
pub flat_bytes : (blocks : List (List ℕ)) → ((i : ℕ) → Block (get_or blocks i [])) → Bytes (flatten blocks)
unfolding flatten
flat_bytes [] each = no_bytes
flat_bytes (block ∷ blocks) each = append-bytes block (flatten blocks) (each 0).bytes (flat_bytes blocks (λ i. each (suc i)))
