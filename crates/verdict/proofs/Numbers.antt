-- The verdict as the number with the reasons' bits. Assumes nothing.
use Prim.Native.Nat.{ℕ, suc, ◌+◌, ◌*◌, ◌^◌}
use mathlib.Core.Path.{◌≡◌, refl, ◌∙◌}
use mathlib.Core.Bool.{Bool, true, false}
use mathlib.Core.List.{List, [], ◌∷◌, map}
use native.Mathlib.Nat.{pow-suc, mul-add, mul_assoc}
use native.Mathlib.Omega.{arith}
use Rattle.base.specs.Words.{pick, sum}
use Rattle.reasons.specs.declared.Figures.{Figures}
use Rattle.reasons.specs.Reasons.{holds, all_reasons}
use Rattle.verdict.specs.Verdict.{verdict}

-- the number with these bits, the lowest first
unfoldable pub number_of : List Bool → ℕ
number_of [] = 0
number_of (bit ∷ bits) = pick bit 1 0 + 2 * number_of bits

-- the masks of these bits added up, from bit k on
abbrev masks : ℕ → List Bool → ℕ
masks k [] = 0
masks k (bit ∷ bits) = pick bit (2 ^ k) 0 + masks (suc k) bits

one_more : (bit : Bool) (power rest : ℕ) → pick bit power 0 + power * 2 * rest ≡ power * (pick bit 1 0 + 2 * rest)
one_more true power rest = rw (mul-add power 1 (2 * rest), mul_assoc power 2 rest) (omega arith)
one_more false power rest = rw (mul-add power 0 (2 * rest), mul_assoc power 2 rest) (omega arith)

masks_are : (k : ℕ) (bits : List Bool) → masks k bits ≡ 2 ^ k * number_of bits
unfolding number_of
masks_are k [] = omega arith
masks_are k (bit ∷ bits) = rw (masks_are (suc k) bits, pow-suc 2 k) (one_more bit (2 ^ k) (number_of bits))

added_up : (f : Figures) → verdict f ≡ masks 0 (map (λ reason. holds reason f) all_reasons)
unfolding verdict sum
added_up f = refl

pub verdict-number : (f : Figures) → verdict f ≡ number_of (map (λ reason. holds reason f) all_reasons)
verdict-number f =
    let bits = map (λ reason. holds reason f) all_reasons in
    added_up f ∙ masks_are 0 bits ∙ omega arith
