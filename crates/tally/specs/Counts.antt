-- The counts of states and speeds that the reasons ask for.
use Rattle.std.specs.Prelude.{ℕ, suc, ◌+◌, max, List, length}
use Rattle.base.specs.Words.{pick, after_first, how_many}
use Rattle.tally.specs.Numbers.{fast_above, faster_above, fastest_above}
use Rattle.tally.specs.Sets.{is_missing, is_slow_urban, is_above}
use Rattle.tally.specs.declared.Counts.{Counts}

-- the missing seconds in a row with which the first i seconds end
unfoldable pub gap_after : List ℕ → ℕ → ℕ
gap_after states = after_first (λ i gap. pick (is_missing states i) (gap + 1) 0) 0

-- the most missing seconds in a row among the first i seconds
unfoldable pub longest_gap : List ℕ → ℕ → ℕ
longest_gap states = after_first (λ i longest. max longest (gap_after states (suc i))) 0

-- the counts of the first i seconds
unfoldable pub counts_after : List ℕ → List ℕ → ℕ → Counts
counts_after states speeds i =
    record {
      missing = how_many (is_missing states) i;
      gap = longest_gap states i;
      slow = how_many (is_slow_urban states speeds) i;
      fast = how_many (is_above states speeds fast_above) i;
      faster = how_many (is_above states speeds faster_above) i;
      fastest = how_many (is_above states speeds fastest_above) i;
    }

-- the counts of the trip
abbrev pub counts_of : List ℕ → List ℕ → Counts
counts_of states speeds = counts_after states speeds (length states)
