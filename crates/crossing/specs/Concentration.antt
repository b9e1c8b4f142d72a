-- A reading crosses as a kind and a value, and the answer of the mass step as the paper's number, place and mass.
use Rattle.std.specs.Prelude.{ℕ, leb, eqb, Float, Result, Ok, Err}
use Rattle.base.specs.declared.refusal.Refusal.{Refusal}
use Rattle.base.specs.declared.refusal.Refusal.TheVariants.{MassInput}
use Rattle.base.specs.Refusal.{accepted, number_of}
use Rattle.base.specs.Words.{pick}
use Rattle.mass.specs.declared.Reading.{Reading}
use Rattle.mass.specs.declared.Reading.TheVariants.{WetPpm, DryPpm, WetPercent, DryPercent}
use Rattle.mass.specs.declared.Setting.{Setting}
use Rattle.crossing.specs.declared.concentration.MassAnswer.{MassAnswer}

-- "wet ppm, dry ppm, wet percent, dry percent": kinds 0 to 3, in this order
unfoldable pub reading_of : ℕ → Float → Reading
reading_of kind value =
    pick (eqb kind 0) (WetPpm value) (pick (eqb kind 1) (DryPpm value) (pick (eqb kind 2) (WetPercent value) (DryPercent value)))

-- a kind above 3 is no reading, and refused as a bad input
unfoldable pub mass_across : (Reading → Setting → Result ℕ Refusal) → ℕ → Float → Setting → Result ℕ Refusal
mass_across mass kind value setting = pick (leb kind 3) (mass (reading_of kind value) setting) (Err MassInput)

-- the reading of a kind, or why there is none
unfoldable pub reading_across : ℕ → Float → Result Reading Refusal
reading_across kind value = pick (leb kind 3) (Ok (reading_of kind value)) (Err MassInput)

-- the answer's struct: the paper's number of a refusal
unfoldable pub answer_of : Result ℕ Refusal → MassAnswer
answer_of (Ok mass) = record { refusal = accepted; mass = mass; place = 0 }
answer_of (Err refusal) = record { refusal = number_of refusal; mass = 0; place = 0 }
