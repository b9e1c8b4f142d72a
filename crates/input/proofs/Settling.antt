-- Enough bytes settle a stream's answer, whatever they are. Assumes nothing.
use Prim.Native.Nat.{ℕ, ◌+◌, ◌*◌, ◌-◌, ◌≤◌, ◌<◌}
use mathlib.Core.Path.{◌≡◌, refl, sym, ◌∙◌, ap}
use mathlib.Core.Bool.{Bool, true, false}
use mathlib.Core.List.{List, ◌++◌}
use native.Mathlib.Omega.{arith}
use lib.Dec.{eqb}
use lib.ListN.{length, drop, length-append, length-drop}
use Rattle.base.specs.Words.{pick}
use Rattle.stream.specs.Items.{Walk}
use Rattle.stream.proofs.Splitting.{Anywhere, Ends, ends_through, ends_stopped, walk_stops}
use Rattle.base.specs.Limits.{trip_limit}
use Rattle.reader.specs.declared.Reader.{Reader}
use Rattle.reader.specs.Reader.{carry_places, held_in, standing_of, started, reader_at}
use Rattle.reader.specs.Inside.{waiting, settled, offset_most, was_made}
use Rattle.reader.specs.Blocks.{stands_after, reader_after}
use Rattle.reader.proofs.Feeding.{reader_open}
use Rattle.reader.proofs.Making.{usable, held_length, start_made, start_places, feeding_made}
use Rattle.reader.proofs.Carry.{places_are}
use Rattle.reader.proofs.Offsets.{offset_most_lem}

-- how many bytes of the stream a reader has seen that is not settled
abbrev pub seen_by : Reader → ℕ
seen_by r = r.at + r.count

-- the bytes that settle every stream: as many as stand before the highest offset, and one item more
abbrev pub enough : ℕ
enough = offset_most + carry_places

pub enough_is : enough ≡ 21 + trip_limit * 23 + 23
enough_is = rw (offset_most_lem, places_are) refl

-- a walk that leaves the answer unsettled has seen all bytes
unsettled_walk : (room at : ℕ) (bytes : List ℕ) (w : Walk) → Ends room Anywhere at bytes w → (stands_after at bytes w).refusal ≡ 0 → seen_by (stands_after at bytes w) ≡ at + length bytes
unfolding stands_after reader_at
unsettled_walk room at bytes _ (ends_through s p) unsettled = omega arith
unsettled_walk room at bytes _ (ends_stopped s number place t p) unsettled = go (eqb number 7) unsettled
  where
    go : (c : Bool) → (pick c (waiting s place (drop (place - at) bytes)) (settled s number place)).refusal ≡ 0 → seen_by (pick c (waiting s place (drop (place - at) bytes)) (settled s number place)) ≡ at + length bytes
    go true o = omega (arith, length-drop (place - at) bytes, t.from, t.inside)
    go false o = absurd (t.bad o)

-- a reader whose answer stays unsettled has seen the bytes of the block
pub seen_more : (room : ℕ) (r : Reader) (block : List ℕ) → was_made r ≡ true → length r.held ≡ carry_places → r.refusal ≡ 0 → (reader_after room r block).refusal ≡ 0 → seen_by (reader_after room r block) ≡ seen_by r + length block
seen_more room r block made long unsettled still =
    let bytes = held_in r ++ block in
    let here = reader_open room r block unsettled in
    let seen = unsettled_walk room r.at bytes _ (walk_stops room (standing_of r) r.at bytes) (ap (λ (r : Reader). r.refusal) (sym here) ∙ still) in
    ap seen_by here ∙ seen ∙ omega (arith, length-append (held_in r) block, held_length r (usable r made) long)

-- but never enough
pub seen_most : (r : Reader) → was_made r ≡ true → seen_by r < enough
seen_most r made = let u = usable r made in omega (arith, u.few, u.at_most)

-- so they settle every stream
pub settled_at_last : (room : ℕ) (stream : List ℕ) → enough ≤ length stream → (reader_after room started stream).refusal ≡ 0 → ⊥
unfolding reader_at
settled_at_last room stream long unsettled =
    let made = feeding_made started start_made room stream in
    omega (arith, seen_more room started stream start_made start_places refl unsettled, seen_most (reader_after room started stream) made)
