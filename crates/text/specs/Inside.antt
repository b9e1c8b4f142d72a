-- What the steps inside the writing of a text promise each other.
use Rattle.std.specs.Prelude.{ℕ, ◌+◌, ◌≡◌, ◌≤◌, List, length}
use Rattle.std.proofs.lemmas.List.Edits.{sets}
use Rattle.text.specs.declared.Writing.{Writing}

-- a number of 64 bits has at most 20 decimal digits
abbrev pub word_digits : ℕ
word_digits = 20

-- the text stands in the buffer from place `from` to before place `next`, and nothing else has changed
pub record Wrote (buffer : List ℕ) (from : ℕ) (text after : List ℕ) (next : ℕ) : Type 0 where
  pub stored : after ≡ sets buffer from text
  pub behind : next ≡ from + length text

-- there is room for a text behind what is written
abbrev pub Fits : Writing → List ℕ → Type 0
Fits writing text = writing.at + length text ≤ length writing.buffer.now

-- the text is written behind what was, in the buffer that was lent
pub record Writes (before : Writing) (text : List ℕ) (after : Writing) : Type 0 where
  pub wrote : Wrote before.buffer.now before.at text after.buffer.now after.at
  pub same_buffer : after.buffer.ghost_name ≡ before.buffer.ghost_name
