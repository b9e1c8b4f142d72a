-- `reader::made::made_before` meets its contract: its tests are those of the definition. Assumes nothing.
use Rattle.reader.specs.Inside.{made_before}
use Rattle.reader.proofs.made.made_before.Goals as goal

pub returns : goal.returns
unfolding made_before
returns c =
    cc
