-- A kind above 3 is refused, and each kind up to 3 is its reading. Assumes nothing.
use Prim.Native.Nat.{ℕ, ◌≤◌, ◌<◌}
use mathlib.Core.Path.{◌≡◌}
use lib.Ieee.{Float}
use borrow.Author.Tests.{le-leb, lt-leb}
use Rattle.mass.specs.declared.Reading.{Reading}
use Rattle.mass.specs.declared.Setting.{Setting}
use Rattle.std.specs.Prelude.{Result, Err}
use Rattle.base.specs.declared.refusal.Refusal.{Refusal}
use Rattle.base.specs.declared.refusal.Refusal.TheVariants.{MassInput}
use Rattle.crossing.specs.Concentration.{reading_of, mass_across}

module _ (mass : Reading → Setting → Result ℕ Refusal) (kind : ℕ) (value : Float) (setting : Setting) where
  pub if_unknown_kind : 3 < kind → mass_across mass kind value setting ≡ Err MassInput
  unfolding mass_across
  if_unknown_kind h = rw (lt-leb kind 3 h)

  pub known_kind : kind ≤ 3 → mass_across mass kind value setting ≡ mass (reading_of kind value) setting
  unfolding mass_across
  known_kind h = rw (le-leb kind 3 h)
