-- `text::digit_of` meets its contract: the code's table is the definition's. Assumes nothing.
use mathlib.Core.Path.{refl}
use Rattle.text.specs.Text.{digit}
use Rattle.text.proofs.digit_of.Goals as goal

pub returns : goal.returns
unfolding digit
returns c =
    refl
