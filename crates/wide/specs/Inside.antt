-- The number that two words stand for.
use Rattle.std.specs.Prelude.{ℕ, ◌+◌, ◌*◌, ◌^◌}
use Rattle.wide.specs.declared.Wide.{Wide}

-- the high word counts by 2 ^ 64, the low word by one; each word is a u64, so a number has only one pair of words
unfoldable pub value : Wide → ℕ
value w = w.hi * 2 ^ 64 + w.lo
