-- The carry counts by 2 ^ 64, as a high word does.
use Rattle.std.proofs.Common.{◌≡◌, Bool, true, false, refl, arith}
use Rattle.std.specs.Int.{from_bool}
use mir.Val.{bool_byte}
use Rattle.wide.specs.Inside.{value}
use Rattle.wide.proofs.sum.Goals as goal

-- a carry as a word
as_word : (carry : Bool) → bool_byte carry ≡ from_bool carry
as_word true = refl
as_word false = refl

pub returns : goal.returns
unfolding value
returns c =
    omega (arith, c.carrying_add-lo.ensures, as_word c.carrying_add-lo.result.1)
