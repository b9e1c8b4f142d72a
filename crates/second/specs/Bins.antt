-- The bins of the seconds.
use Rattle.std.specs.Prelude.{ℕ, leb}
use Rattle.base.specs.Roads.{urban, rural, motorway}
use Rattle.base.specs.Words.{pick}

-- "Bins by the second's speed: urban up to 6,000, rural up to 9,000, motorway above"
unfoldable pub bin_of : ℕ → ℕ
bin_of speed = pick (leb speed 6_000) urban (pick (leb speed 9_000) rural motorway)
