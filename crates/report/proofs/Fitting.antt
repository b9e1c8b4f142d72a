-- Laws of a text in a buffer: one that fits is written at the front, one that does not changes nothing. Assumes nothing.
use Prim.Native.Nat.{ℕ, ◌<◌, ◌≤◌}
use mathlib.Core.Path.{◌≡◌, refl, ◌∙◌}
use mathlib.Core.Bool.{Bool, true, false}
use mathlib.Core.List.{List}
use mathlib.Core.Logic.{◌↔◌}
use native.Mathlib.Nat.{zero-add}
use native.Mathlib.Omega.{arith}
use lib.Dec.{leb}
use lib.ListN.{length}
use lib.Seq.{sets-eq}
use borrow.Author.Tests.{le-leb, lt-leb, leb-true, leb-false}
use Rattle.base.specs.Words.{pick, with_front}
use Rattle.report.specs.Lines.{length_written, buffer_written}
use Rattle.text.specs.Inside.{Wrote}

-- a text that fits, written at the front
pub fits_length : (text b : List ℕ) → length text ≤ length b → length_written text b ≡ length text
unfolding length_written
fits_length text b h = rw (le-leb (length text) (length b) h) refl

pub fits_buffer : (text b : List ℕ) → length text ≤ length b → buffer_written text b ≡ with_front text b
unfolding buffer_written
fits_buffer text b h = rw (le-leb (length text) (length b) h) refl

-- a text that does not
pub short_length : (text b : List ℕ) → length b < length text → length_written text b ≡ 0
unfolding length_written
short_length text b h = rw (lt-leb (length text) (length b) h) refl

pub short_buffer : (text b : List ℕ) → length b < length text → buffer_written text b ≡ b
unfolding buffer_written
short_buffer text b h = rw (lt-leb (length text) (length b) h) refl

-- what the steps wrote from place 0 on is what the definition says
pub wrote_length : {b text c : List ℕ} {r : ℕ} → Wrote b 0 text c r → length text ≤ length b → r ≡ length_written text b
wrote_length {b} {text} w h = omega (arith, w.behind, fits_length text b h)

pub wrote_buffer : {b text c : List ℕ} {r : ℕ} → Wrote b 0 text c r → length text ≤ length b → c ≡ buffer_written text b
wrote_buffer {b} {text} w h =
    w.stored ∙ sets-eq text b 0 (omega arith) ∙ rw (zero-add (length text), fits_buffer text b h) refl

-- never more than the buffer holds
pub written_within : (text b : List ℕ) → length_written text b ≤ length b
unfolding length_written
written_within text b = go (leb (length text) (length b)) refl
  where
    go : (t : Bool) → leb (length text) (length b) ≡ t → pick t (length text) 0 ≤ length b
    go true q = leb-true (length text) (length b) q
    go false q = omega arith

-- no bytes written says that a text does not fit, unless it is empty
pub zero_says_short : (text b : List ℕ) → 0 < length text → length_written text b ≡ 0 → length b < length text
unfolding length_written
zero_says_short text b some none = go (leb (length text) (length b)) refl none
  where
    go : (t : Bool) → leb (length text) (length b) ≡ t → pick t (length text) 0 ≡ 0 → length b < length text
    go true q e = absurd (omega arith)
    go false q e = leb-false (length text) (length b) q

pub zero_exactly : (text b : List ℕ) → 0 < length text → (length_written text b ≡ 0) ↔ (length b < length text)
zero_exactly text b some = (zero_says_short text b some, short_length text b)
