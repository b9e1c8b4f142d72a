-- The products of the seconds that count (Appendix 7a).
use Rattle.std.specs.Prelude.{ℕ, ◌*◌, Bool, ◌&&◌, List, [], ◌∷◌, ◌++◌, eqb, pos, nat_abs, length, get_or}
use Rattle.std.specs.Int.Signed.{lt_z}
use Rattle.base.specs.Words.{pick, after_first}
use Rattle.second.specs.Bins.{bin_of}
use Rattle.acceleration.specs.D.{d_of, has_d}

-- "Seconds with D > 72 (0.1 m/s²) count"
unfoldable pub counts : List ℕ → List ℕ → ℕ → Bool
counts states speeds i = has_d states i && lt_z (pos 72) (d_of speeds i)

-- "their product is P = speed times D"; D is above 0, so it is its own size
unfoldable pub product_of : List ℕ → ℕ → ℕ
product_of speeds i = get_or speeds i 0 * nat_abs (d_of speeds i)

-- the second counts, in this bin
unfoldable pub counts_in : ℕ → List ℕ → List ℕ → ℕ → Bool
counts_in bin states speeds i = counts states speeds i && eqb (bin_of (get_or speeds i 0)) bin

-- the products of a bin, in the order of the seconds: of the first i, and of all
unfoldable pub products_after : ℕ → List ℕ → List ℕ → ℕ → List ℕ
products_after bin states speeds =
    after_first (λ i products. pick (counts_in bin states speeds i) (products ++ (product_of speeds i ∷ [])) products) []

abbrev pub products_of : ℕ → List ℕ → List ℕ → List ℕ
products_of bin states speeds = products_after bin states speeds (length states)
