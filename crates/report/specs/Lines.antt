-- "The printed case": the six lines of a judged trip, the one line of a refusal, and a text in a lent buffer.
use Rattle.std.specs.Prelude.{ℕ, List, ◌++◌, leb, length}
use Prim.Native.String.{String}
use Rattle.base.specs.Words.{pick, with_front}
use Rattle.report.specs.declared.ClassLine.{ClassLine}
use Rattle.report.specs.declared.Judged.{Judged}
use Rattle.text.specs.Text.{bytes, decimal, hex}

-- a number behind its words
abbrev pub named : String → ℕ → List ℕ
named words n = bytes words ++ decimal n

-- two of them, and the line end
abbrev pub line : String → ℕ → String → ℕ → List ℕ
line first a second b = named first a ++ named second b ++ bytes "\n"

-- "Line 1: all seconds, missing, kept; line 2: windows, unclassed ones too, and moves."
unfoldable pub count_lines : Judged → List ℕ
count_lines trip =
    named "seconds " trip.seconds ++ line " missing " trip.missing " kept " trip.kept
    ++ line "windows " trip.windows " moves " trip.moves

-- "Class lines: windows, windows inside."
abbrev pub class_line : String → ClassLine → List ℕ
class_line name class = line name class.windows " " class.inside

unfoldable pub class_lines : Judged → List ℕ
class_lines trip = class_line "urban " trip.urban ++ class_line "rural " trip.rural ++ class_line "motorway " trip.motorway

-- "Reasons: four lower-case hex digits."
unfoldable pub reasons_line : ℕ → List ℕ
reasons_line reasons = bytes "reasons " ++ hex reasons ++ bytes "\n"

-- the six lines of a judged trip
unfoldable pub judged_text : Judged → List ℕ
judged_text trip = count_lines trip ++ class_lines trip ++ reasons_line trip.reasons

-- "A refusal prints only `refused R at P`."
unfoldable pub refusal_text : ℕ → ℕ → List ℕ
refusal_text number place = line "refused " number " at " place

-- how many bytes of a lent buffer a text takes: its length, or none where it does not fit
unfoldable pub length_written : List ℕ → List ℕ → ℕ
length_written text buffer = pick (leb (length text) (length buffer)) (length text) 0

-- the buffer afterwards: the text at its front and the rest as it was, or all as it was where the text does not fit
unfoldable pub buffer_written : List ℕ → List ℕ → List ℕ
buffer_written text buffer = pick (leb (length text) (length buffer)) (with_front text buffer) buffer

-- no text is longer: 80 bytes of words, spaces, line ends and hex digits, and eleven numbers of at most 20 digits
abbrev pub longest_text : ℕ
longest_text = 300
