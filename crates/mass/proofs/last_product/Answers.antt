-- `mass::last_product` meets its contract: it makes the definition's products, in its order. Assumes nothing.
use Rattle.mass.specs.Mass.{last_product}
use Rattle.mass.proofs.last_product.Goals as goal

pub returns : goal.returns
unfolding last_product
returns c =
    cc
