-- The printed case and a refusal, by computation on the definitions, byte for byte; a buffer of `longest_text` bytes always
-- suffices, and the answer 0 says that the text does not fit. Assumes nothing.
use Prim.Native.Nat.{ℕ, ◌≤◌, ◌<◌, ◌^◌}
use mathlib.Core.Path.{◌≡◌, refl}
use mathlib.Core.List.{List}
use native.Mathlib.Nat.{le_trans}
use native.Mathlib.Omega.{arith}
use lib.ListN.{length}
use Rattle.base.specs.InFront.{InFront}
use Rattle.base.proofs.InFront.{in_front}
use Rattle.report.specs.declared.Judged.{Judged}
use Rattle.text.specs.Text.{bytes, digit, decimal_up_to, decimal, hex}
use Rattle.report.specs.Lines.{count_lines, class_lines, reasons_line, judged_text, refusal_text, length_written, buffer_written, longest_text}
use Rattle.report.proofs.Lengths.{Words, judged-length, refusal_length, judged-longest, refusal_longest}
use Rattle.report.proofs.Fitting.{fits_length, fits_buffer}

-- the numbers of the printed case
pub printed_case : Judged
printed_case =
    record {
      seconds = 5;
      missing = 0;
      kept = 5;
      windows = 4;
      moves = 9;
      urban = record { windows = 4; inside = 0 };
      rural = record { windows = 0; inside = 0 };
      motorway = record { windows = 0; inside = 0 };
      reasons = 0xc86d;
    }

pub printed_case_lem : judged_text printed_case ≡ bytes "seconds 5 missing 0 kept 5\nwindows 4 moves 9\nurban 4 0\nrural 0 0\nmotorway 0 0\nreasons c86d\n"
unfolding printed_case judged_text count_lines class_lines reasons_line decimal decimal_up_to hex digit
printed_case_lem = refl

pub printed_refusal : refusal_text 11 120 ≡ bytes "refused 11 at 120\n"
unfolding refusal_text decimal decimal_up_to digit
printed_refusal = refl

-- a buffer of the longest length suffices
pub judged_suffices : (t : Judged) (buffer : List ℕ) → Words t → longest_text ≤ length buffer → length_written (judged_text t) buffer ≡ length (judged_text t)
judged_suffices t buffer w room = fits_length (judged_text t) buffer (le_trans (judged-longest t w) room)

pub refusal_suffices : (number place : ℕ) (buffer : List ℕ) → number < 2 ^ 64 → place < 2 ^ 64 → longest_text ≤ length buffer → length_written (refusal_text number place) buffer ≡ length (refusal_text number place)
refusal_suffices number place buffer n p room = fits_length (refusal_text number place) buffer (le_trans (refusal_longest number place n p) room)

-- the answer 0 says exactly that the text does not fit: no text is empty
pub judged_some : (t : Judged) → 0 < length (judged_text t)
judged_some t = omega (arith, judged-length t)

pub refusal_some : (number place : ℕ) → 0 < length (refusal_text number place)
refusal_some number place = omega (arith, refusal_length number place)

-- a text that fits stands in the first places and changes no other; that one that does not fit changes nothing is `short_buffer`
pub text_written : (text buffer : List ℕ) → length text ≤ length buffer → InFront text (length text) buffer (buffer_written text buffer)
text_written text buffer fits = rw (fits_buffer text buffer fits) (in_front text buffer (length text) refl fits)
