-- The dynamics of a trip (Appendix 7a).
use Rattle.std.specs.Prelude.{ℕ, List, ◌++◌, length}
use Rattle.base.specs.Roads.{urban, rural, motorway}
use Rattle.base.specs.Words.{sum, with_front}
use Rattle.order.specs.Sort.{sort}
use Rattle.acceleration.specs.Products.{products_of}
use Rattle.percentile.specs.Percentile.{q_or_zero}
use Rattle.dynamics.specs.declared.Figures.{Figures}

-- "M, T and Q (zero where M is below 100)" of a bin's products
unfoldable pub dynamics_of : List ℕ → Figures
dynamics_of products = record { m = length products; t = sum products; q = q_or_zero products }

-- "urban, then rural, then motorway products, each ascending"
abbrev pub ranked_products : List ℕ → List ℕ → List ℕ
ranked_products states speeds =
    sort (products_of urban states speeds) ++ sort (products_of rural states speeds) ++ sort (products_of motorway states speeds)

-- the ranking lane: "afterwards it holds urban, then rural, then motorway products, .., the rest unchanged"
unfoldable pub ranks_of : List ℕ → List ℕ → List ℕ → List ℕ
ranks_of states speeds ranks = with_front (ranked_products states speeds) ranks
