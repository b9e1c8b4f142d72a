-- Urban, rural, motorway, by number: a second has one of them as its bin, by its speed; a window as its class, by its mean speed.
use Rattle.std.specs.Prelude.{ℕ, List, [], ◌∷◌}
use Rattle.base.specs.declared.road.Road.{Road}
use Rattle.base.specs.declared.road.Road.TheVariants.{Urban, Rural, Motorway}

abbrev pub urban : ℕ
urban = 0

abbrev pub rural : ℕ
rural = 1

abbrev pub motorway : ℕ
motorway = 2

-- a figure of each of the three, in their order
abbrev pub of_each {ℓ} : {A : Type ℓ} → (ℕ → A) → List A
of_each figure = figure urban ∷ figure rural ∷ figure motorway ∷ []

-- the number of a road, by its name in the code
abbrev pub road_number : Road → ℕ
road_number Urban = urban
road_number Rural = rural
road_number Motorway = motorway
