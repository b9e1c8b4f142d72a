-- What a window is, whichever way it is found. Kept seconds are counted from 0 here; a lane of ends numbers them from 1.
use Rattle.std.specs.Prelude.{ℕ, suc, Bool, ◌&&◌, List, leb, ltb, length, take, drop}
use Rattle.base.specs.Words.{sum, first_where, how_many}

-- what a lane has for kept seconds f to l: "A window's seconds can be handed on as a part of the kept lanes starting at its first second."
abbrev pub from_to : ℕ → ℕ → List ℕ → List ℕ
from_to f l lane = drop f (take (suc l) lane)

-- "The window from kept second f ends at the first l, from f on, where the CO2 sum f to l reaches the reference."
-- That l; where there is none, the number of kept seconds
unfoldable pub window_last : ℕ → List ℕ → ℕ → ℕ
window_last reference co2 f = first_where (λ l. leb f l && leb reference (sum (from_to f l co2))) (length co2)

-- kept second f has a window
unfoldable pub has_window : ℕ → List ℕ → ℕ → Bool
has_window reference co2 f = ltb (window_last reference co2 f) (length co2)

-- the end of the window from kept second f, "first kept second numbered 1"
unfoldable pub window_end : ℕ → List ℕ → ℕ → ℕ
window_end reference co2 f = suc (window_last reference co2 f)

-- the number of windows
abbrev pub windows : ℕ → List ℕ → ℕ
windows reference co2 = how_many (has_window reference co2) (length co2)
