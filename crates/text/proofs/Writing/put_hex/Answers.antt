-- `text::Writing::put_hex` meets its contract: the four digits are words of four bytes. Assumes nothing.
use native.Mathlib.Omega.{arith}
use Rattle.text.specs.Text.{hex}
use Rattle.text.proofs.Writing.put_hex.Goals as goal

pub returns : goal.returns
unfolding hex
returns c =
    rw (← c.digit_of-first.ensures, ← c.digit_of-second.ensures, ← c.digit_of-third.ensures, ← c.digit_of-fourth.ensures) c.put_words.ensures

pub put_words-requires : goal.put_words-requires
unfolding hex
put_words-requires c =
    omega arith
