-- No refusal has the number 0, which stands for none. Assumes nothing.
use Prim.Native.Nat.{◌<◌}
use mathlib.Core.Path.{◌≡◌}
use mathlib.Core.Bool.{false}
use native.Mathlib.Omega.{arith}
use lib.Dec.{eqb}
use borrow.Author.Tests.{ne_eqb}
use Rattle.base.specs.declared.refusal.Refusal.{Refusal}
use Rattle.base.specs.Refusal.{accepted, number_of}

pub number_above_0 : (refusal : Refusal) → 0 < number_of refusal
number_above_0 Refusal.LanesDiffer = omega arith
number_above_0 other = omega arith

pub refusal_some : (refusal : Refusal) → number_of refusal ≡ 0 → ⊥
refusal_some refusal z = omega (arith, number_above_0 refusal)

pub not_accepted : (refusal : Refusal) → eqb (number_of refusal) accepted ≡ false
not_accepted refusal = ne_eqb (number_of refusal) accepted (refusal_some refusal)
