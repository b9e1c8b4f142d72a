-- Laws of `pick`: what follows from which side was taken. Assumes nothing.
use Prim.Native.Nat.{ℕ}
use mathlib.Core.Path.{◌≡◌, refl}
use mathlib.Core.Bool.{Bool, true, false}
use lib.Dec.{eqb}
use borrow.Author.Tests.{eq-eqb}
use Rattle.base.specs.Words.{pick}

-- a function of a choice is the choice of its values
pub of_pick {ℓ κ} : {A : Type ℓ} {B : Type κ} (f : A → B) (t : Bool) (a b : A) → f (pick t a b) ≡ pick t (f a) (f b)
of_pick f true a b = refl
of_pick f false a b = refl

-- what holds of both sides holds of the choice
pub both_ways {ℓ κ} : {A : Type ℓ} (P : A → Type κ) (t : Bool) {a b : A} → P a → P b → P (pick t a b)
both_ways P true p q = p
both_ways P false p q = q

-- a choice between equals is no choice
pub same_ways {ℓ} : {A : Type ℓ} (t : Bool) (a : A) → pick t a a ≡ a
same_ways true a = refl
same_ways false a = refl

-- a number equals itself, as a test
pub eqb_self : (n : ℕ) → eqb n n ≡ true
eqb_self n = eq-eqb n n refl
