-- What the steps that write a bin's products promise and may take for granted.
use Rattle.std.specs.Prelude.{ℕ, ◌≤◌, ◌≡◌, Option, Some, None, List, length}
use Rattle.base.specs.Limits.{trip_limit}
use Rattle.base.specs.Words.{pick, sum}
use Rattle.acceleration.specs.declared.Products.{Products}
use Rattle.acceleration.specs.Products.{product_of, counts_in}

-- lanes of one length, and no more than a trip's
pub record SpeedLanes (states speeds : List ℕ) : Type 0 where
  pub agree : length speeds ≡ length states
  pub few : length states ≤ trip_limit

-- how many the products are, and their sum
unfoldable pub figures_of : List ℕ → Products
figures_of products = record { count = length products; total = sum products }

-- the product of a second that counts in the bin
unfoldable pub product_counted : ℕ → List ℕ → List ℕ → ℕ → Option ℕ
product_counted bin states speeds i = pick (counts_in bin states speeds i) (Some (product_of speeds i)) None
