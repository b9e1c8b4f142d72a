-- A read that leaves the answer unsettled brings the reading on, so that the reads suffice. Assumes nothing.
use Prim.Native.Nat.{ℕ, zero, suc, ◌+◌, ◌≤◌, ◌<◌}
use mathlib.Core.Path.{◌≡◌, sym, ◌∙◌, ap}
use mathlib.Core.Bool.{true, true≢false, not, and-eq-true_iff}
use mathlib.Core.List.{List}
use native.Mathlib.Omega.{arith}
use lib.Dec.{eqb}
use lib.ListN.{length, take}
use lib.Seq.{length-take-le}
use borrow.Author.Tests.{eqb-true}
use Rattle.reader.specs.declared.Reader.{Reader}
use Rattle.reader.specs.Reader.{started, reader_at}
use Rattle.reader.specs.Inside.{was_made}
use Rattle.second.specs.Lanes.{Lanes, room_in}
use Rattle.input.specs.declared.Input.{Input}
use Rattle.input.specs.Inside.{HasFed}
use Rattle.input.specs.Input.{reads_on, HasRead}
use Rattle.input.proofs.Blocks.{has_read_nothing, has_read_more, read_places}
use Rattle.input.proofs.Settling.{seen_by, enough, seen_more, seen_most}

-- where it goes on, a byte came and no bad item
going : (input : Input) → reads_on input ≡ true → (0 < input.came) × (input.reader.refusal ≡ 0)
going input on =
    let both = (and-eq-true_iff (not (eqb input.came 0)) (eqb input.reader.refusal 0)).0 on in
    (some input.came both.0, eqb-true input.reader.refusal 0 both.1)
  where
    some : (n : ℕ) → not (eqb n 0) ≡ true → 0 < n
    some zero e = absurd (true≢false (sym e))
    some (suc n) e = omega arith

-- where the reading stands while so many reads are left: the bytes that were seen and these reads are enough for every stream
pub record Stands (reads : ℕ) (before : Lanes) (r : Reader) (after : Lanes) : Type 0 where
  pub unsettled : r.refusal ≡ 0
  pub reaches : enough ≤ reads + seen_by r
  pub read : HasRead before r after

-- before the first read
pub stands_first : (reads : ℕ) (lanes : Lanes) (r : Reader) → r ≡ started → enough ≤ reads → Stands reads lanes r lanes
unfolding reader_at
stands_first reads lanes r is suffices =
    record { unsettled = ap (λ (q : Reader). q.refusal) is; reaches = omega arith; read = has_read_nothing lanes r is }

-- after one read that leaves more to come
pub stands_next : (left reads : ℕ) → left ≤ reads + 1 → (first : Lanes) (r : Reader) (before : Lanes) (block : List ℕ) (input : Input) (after : Lanes) → Stands left first r before → was_made r ≡ true → HasFed before r (take input.came block) input.reader after → input.came ≤ length block → reads_on input ≡ true → Stands reads first input.reader after
stands_next left reads one_less first r before block input after so_far made fed within goes =
    let on = going input goes in
    let came = take input.came block in
    let some : length came ≡ input.came = length-take-le input.came block within in
    let seen = seen_more (room_in before) r came made (read_places first r before so_far.read) so_far.unsettled (ap (λ (q : Reader). q.refusal) (sym fed.reader) ∙ on.1) in
    let now : seen_by input.reader ≡ seen_by r + length came = ap seen_by fed.reader ∙ seen in
    record { unsettled = on.1; reaches = omega (arith, so_far.reaches, on.0); read = has_read_more first r before came input.reader after so_far.read fed }

-- so that some read ends the reading
pub none_left : (reads : ℕ) (first : Lanes) (r : Reader) (after : Lanes) → Stands reads first r after → was_made r ≡ true → reads ≡ 0 → ⊥
none_left reads first r after so_far made none = omega (arith, so_far.reaches, seen_most r made)
