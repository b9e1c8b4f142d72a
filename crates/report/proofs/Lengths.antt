-- Laws of lengths: the words and the decimal digits of each text add up, and no text of words of 64 bits is longer than `longest_text`.
-- Assumes nothing.
use Prim.Native.Nat.{ℕ, ◌+◌, ◌^◌, ◌<◌, ◌≤◌}
use mathlib.Core.Path.{◌≡◌, refl, ◌∙◌}
use mathlib.Core.List.{List, ◌++◌}
use native.Mathlib.Omega.{arith}
use lib.ListN.{length, length-append}
use Rattle.report.specs.declared.Judged.{Judged}
use Rattle.report.specs.declared.ClassLine.{ClassLine}
use Rattle.text.specs.Text.{bytes, decimal, hex}
use Rattle.report.specs.Lines.{named, line, class_line, count_lines, class_lines, reasons_line, judged_text, refusal_text, longest_text}
use Rattle.text.proofs.Decimal.{word_length}

-- how many decimal digits a number has
abbrev pub digits : ℕ → ℕ
digits n = length (decimal n)

-- a line of two numbers
pub line-length : (first second : List ℕ) (a b : ℕ) → length (first ++ decimal a ++ (second ++ decimal b) ++ bytes "\n") ≡ length first + digits a + length second + digits b + 1
line-length first second a b =
    length-append (first ++ decimal a ++ (second ++ decimal b)) (bytes "\n")
    ∙ omega (arith, length-append (first ++ decimal a) (second ++ decimal b), length-append first (decimal a), length-append second (decimal b))

-- how many decimal digits a class line has
abbrev pub class_digits : ClassLine → ℕ
class_digits class = digits class.windows + digits class.inside

pub count-length : (t : Judged) → length (count_lines t) ≡ 40 + digits t.seconds + digits t.missing + digits t.kept + digits t.windows + digits t.moves
unfolding count_lines
count-length t =
    let one = named "seconds " t.seconds in
    let rest = line " missing " t.missing " kept " t.kept in
    let two = line "windows " t.windows " moves " t.moves in
    omega
    (arith, length-append (one ++ rest) two, length-append one rest, length-append (bytes "seconds ") (decimal t.seconds), line-length (bytes " missing ") (bytes " kept ") t.missing t.kept, line-length (bytes "windows ") (bytes " moves ") t.windows t.moves)

pub class-length : (t : Judged) → length (class_lines t) ≡ 27 + class_digits t.urban + class_digits t.rural + class_digits t.motorway
unfolding class_lines
class-length t =
    let urban = class_line "urban " t.urban in
    let rural = class_line "rural " t.rural in
    let motorway = class_line "motorway " t.motorway in
    omega
    (arith, length-append (urban ++ rural) motorway, length-append urban rural, line-length (bytes "urban ") (bytes " ") t.urban.windows t.urban.inside, line-length (bytes "rural ") (bytes " ") t.rural.windows t.rural.inside, line-length (bytes "motorway ") (bytes " ") t.motorway.windows t.motorway.inside)

pub reasons_length : (n : ℕ) → length (reasons_line n) ≡ 13
unfolding reasons_line hex
reasons_length n = refl

pub refusal_length : (number place : ℕ) → length (refusal_text number place) ≡ 13 + digits number + digits place
unfolding refusal_text
refusal_length number place = line-length (bytes "refused ") (bytes " at ") number place ∙ omega arith

-- the six lines: the decimal digits and 80 bytes besides
pub judged-length : (t : Judged) → length (judged_text t) ≡ 80 + digits t.seconds + digits t.missing + digits t.kept + digits t.windows + digits t.moves + class_digits t.urban + class_digits t.rural + class_digits t.motorway
unfolding judged_text
judged-length t =
    omega
    (arith, length-append (count_lines t ++ class_lines t) (reasons_line t.reasons), length-append (count_lines t) (class_lines t), count-length t, class-length t, reasons_length t.reasons)

-- numbers of 64 bits
abbrev Word : ℕ → Type 0
Word n = n < 2 ^ 64

pub record ClassWords (class : ClassLine) : Type 0 where
  pub windows : Word class.windows
  pub inside : Word class.inside

pub record Words (t : Judged) : Type 0 where
  pub seconds : Word t.seconds
  pub missing : Word t.missing
  pub kept : Word t.kept
  pub windows : Word t.windows
  pub moves : Word t.moves
  pub urban : ClassWords t.urban
  pub rural : ClassWords t.rural
  pub motorway : ClassWords t.motorway

-- no text is longer than `longest_text`
pub judged-longest : (t : Judged) → Words t → length (judged_text t) ≤ longest_text
judged-longest t w =
    omega
    (arith, judged-length t, word_length t.seconds w.seconds, word_length t.missing w.missing, word_length t.kept w.kept, word_length t.windows w.windows, word_length t.moves w.moves, word_length t.urban.windows w.urban.windows, word_length t.urban.inside w.urban.inside, word_length t.rural.windows w.rural.windows, word_length t.rural.inside w.rural.inside, word_length t.motorway.windows w.motorway.windows, word_length t.motorway.inside w.motorway.inside)

pub refusal_longest : (number place : ℕ) → Word number → Word place → length (refusal_text number place) ≤ longest_text
refusal_longest number place n p = omega (arith, refusal_length number place, word_length number n, word_length place p)
