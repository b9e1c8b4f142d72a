-- When each number of the mass step is given: "Mass: 9, then 10".
use Rattle.std.specs.Prelude.{ℕ, ◌≤◌, ◌<◌, ◌≡◌, true, false, ◌&&◌, Float, Result, Ok, Err}
use Rattle.mass.specs.declared.Reading.{Reading}
use Rattle.mass.specs.declared.Setting.{Setting}
use Rattle.base.specs.declared.refusal.Refusal.{Refusal}
use Rattle.base.specs.declared.refusal.Refusal.TheVariants.{MassInput, MassTooLarge}
use Rattle.mass.specs.Mass.{reading_in_range, setting_in_range, last_product, whole_part}

module _ (scale : Float) (limit : ℕ) (reading : Reading) (s : Setting) where
  -- the answer, with what holds then: 9, "a mass input not finite or out of range", then 10, "the whole-part mass above the second's range"
  pub data Outcome : Result ℕ Refusal → Type 0 where
    bad_input : reading_in_range reading && setting_in_range s ≡ false → Outcome (Err MassInput)
    too_large : reading_in_range reading && setting_in_range s ≡ true → limit < whole_part (last_product scale reading s) → Outcome (Err MassTooLarge)
    fine : reading_in_range reading && setting_in_range s ≡ true → whole_part (last_product scale reading s) ≤ limit → Outcome (Ok (whole_part (last_product scale reading s)))
