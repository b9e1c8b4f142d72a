-- The text and the lent lanes, of a refusal and of what is not refused. Assumes nothing.
use Prim.Native.Nat.{ℕ, ◌≤◌, ◌<◌}
use mathlib.Core.Path.{◌≡◌, refl}
use mathlib.Core.Bool.{Bool, true, false}
use mathlib.Core.List.{List}
use native.Mathlib.Omega.{arith}
use lib.Dec.{leb, eqb}
use lib.ListN.{length, drop, length-append}
use borrow.Author.Tests.{eq-eqb, ne_eqb}
use Rattle.base.specs.Refusal.{accepted}
use Rattle.base.specs.Words.{pick, with_front}
use Rattle.stream.specs.declared.ReadAnswer.{ReadAnswer}
use Rattle.second.specs.Lanes.{Lanes}
use Rattle.trip.specs.declared.Evaluated.{Evaluated}
use Rattle.trip.specs.declared.Rooms.{Rooms}
use Rattle.trip.specs.Trip.{answer_of}
use Rattle.trip.specs.Lent.{Lent, lent_left}
use Rattle.report.specs.Lines.{judged_text, refusal_text, length_written, buffer_written}
use Rattle.report.proofs.Theorems.{judged_some, refusal_some}
use Rattle.printed.specs.Printed.{first_seconds, lines_of, trip_text, printed_text, lent_after}

-- ---- a trip's answer
pub refused_trip : (trip : Evaluated) → (trip.refusal ≡ accepted → ⊥) → trip_text trip ≡ refusal_text trip.refusal trip.place
unfolding trip_text
refused_trip trip is_bad = rw (ne_eqb _ _ is_bad) refl

pub judged_trip : (trip : Evaluated) → trip.refusal ≡ accepted → trip_text trip ≡ judged_text (lines_of trip)
unfolding trip_text
judged_trip trip is_good = rw (eq-eqb _ _ is_good) refl

-- ---- a stream that is refused
module _ (read : ReadAnswer) (lanes : Lanes) (is_bad : read.refusal ≡ accepted → ⊥) where
  pub refused_text : (rooms : Rooms) → printed_text read lanes rooms ≡ refusal_text read.refusal read.place
  unfolding printed_text
  refused_text rooms = rw (ne_eqb _ _ is_bad) refl

  pub refused_lent : (lent : Lent) → lent_after read lanes lent ≡ lent
  unfolding lent_after
  refused_lent lent = rw (ne_eqb _ _ is_bad) refl

-- ---- a stream that is readable
module _ (read : ReadAnswer) (lanes : Lanes) (is_good : read.refusal ≡ accepted) where
  pub read_text : (rooms : Rooms) → printed_text read lanes rooms ≡ trip_text (answer_of read.plan (first_seconds read.seconds lanes) rooms)
  unfolding printed_text
  read_text rooms = rw (eq-eqb _ _ is_good) refl

  pub read_lent : (lent : Lent) → lent_after read lanes lent ≡ lent_left read.plan (first_seconds read.seconds lanes) lent
  unfolding lent_after
  read_lent lent = rw (eq-eqb _ _ is_good) refl

-- ---- the buffer afterwards
-- what was written lies within it
pub written_inside : (text buffer : List ℕ) → length_written text buffer ≤ length (buffer_written text buffer)
unfolding length_written buffer_written
written_inside text buffer = go (leb (length text) (length buffer))
  where
    go : (fits : Bool) → pick fits (length text) 0 ≤ length (pick fits (with_front text buffer) buffer)
    go true = omega (arith, length-append text (drop (length text) buffer))
    go false = omega arith

-- ---- no text is empty
either_some : (t : Bool) (a b : List ℕ) → 0 < length a → 0 < length b → 0 < length (pick t a b)
either_some true a b some other = some
either_some false a b some other = other

trip_some : (trip : Evaluated) → 0 < length (trip_text trip)
unfolding trip_text
trip_some trip =
    either_some (eqb trip.refusal accepted) (judged_text (lines_of trip)) (refusal_text trip.refusal trip.place) (judged_some (lines_of trip)) (refusal_some trip.refusal trip.place)

pub text_some : (read : ReadAnswer) (lanes : Lanes) (rooms : Rooms) → 0 < length (printed_text read lanes rooms)
unfolding printed_text
text_some read lanes rooms =
    let trip = answer_of read.plan (first_seconds read.seconds lanes) rooms in
    either_some (eqb read.refusal accepted) (trip_text trip) (refusal_text read.refusal read.place) (trip_some trip) (refusal_some read.refusal read.place)
