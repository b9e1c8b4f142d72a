-- What the steps inside may take for granted of a number: it is finite, from 0 (a zero of either sign) to top.
use Rattle.std.specs.Prelude.{ℕ, ◌*◌, ◌≤◌, ◌≡◌, Bool, true, ℤ, Float}
use Rattle.std.specs.Float.{fin}
use Rattle.std.specs.Float.Ieee.{up, down}

pub data Bounded : Float → ℕ → Type 0 where
  bounded : {s : Bool} {m : ℕ} {e : ℤ} {top : ℕ} → (s ≡ true → m ≡ 0) → m * up e ≤ top * down e → Bounded (fin s m e) top
