-- Kept seconds (Appendix 5).
use Rattle.std.specs.Prelude.{ℕ, Bool, ◌&&◌, List, [], ◌∷◌, ◌++◌, leb, eqb, length, get_or}
use Rattle.base.specs.Second.{measured}
use Rattle.base.specs.Words.{pick, after_first}

-- "speed at least 100"
abbrev pub kept_speed_least : ℕ
kept_speed_least = 100

-- "Kept: state 1 and speed at least 100."
abbrev pub second_kept : ℕ → ℕ → Bool
second_kept state speed = eqb state measured && leb kept_speed_least speed

-- what a lane has for the kept ones of the first i seconds, in order
unfoldable pub kept_after : List ℕ → List ℕ → List ℕ → ℕ → List ℕ
kept_after states speeds lane =
    after_first (λ i kept. pick (second_kept (get_or states i 0) (get_or speeds i 0)) (kept ++ (get_or lane i 0 ∷ [])) kept) []

-- "Kept speeds and CO2 masses stand in order in lanes of their own.": what a lane has for the kept seconds
abbrev pub kept_of : List ℕ → List ℕ → List ℕ → List ℕ
kept_of states speeds lane = kept_after states speeds lane (length states)
