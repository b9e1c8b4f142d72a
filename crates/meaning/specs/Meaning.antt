-- The release of the meaning: the entry of docs/VALID.md by which this build answers.
use Rattle.std.specs.Prelude.{ℕ}

abbrev pub release_of_meaning : ℕ
release_of_meaning = 3
