-- When each number of a mass call is given, where the reading comes as a kind and a value: "Mass: 9, then 10".
use Rattle.std.specs.Prelude.{ℕ, ◌≤◌, ◌<◌, ◌≡◌, true, false, ◌&&◌, Float}
use Rattle.base.specs.Refusal.{accepted, mass_input, mass_too_large}
use Rattle.mass.specs.declared.Setting.{Setting}
use Rattle.mass.specs.Mass.{reading_in_range, setting_in_range, last_product, whole_part}
use Rattle.crossing.specs.Concentration.{reading_of}

module _ (scale : Float) (limit kind : ℕ) (value : Float) (s : Setting) where
  -- the number, with what holds then; a kind above 3 is no reading
  pub data Outcome : ℕ → Type 0 where
    no_kind : 3 < kind → Outcome mass_input
    bad_input : kind ≤ 3 → reading_in_range (reading_of kind value) && setting_in_range s ≡ false → Outcome mass_input
    too_large : kind ≤ 3 → reading_in_range (reading_of kind value) && setting_in_range s ≡ true → limit < whole_part (last_product scale (reading_of kind value) s) → Outcome mass_too_large
    fine : kind ≤ 3 → reading_in_range (reading_of kind value) && setting_in_range s ≡ true → whole_part (last_product scale (reading_of kind value) s) ≤ limit → Outcome accepted
