-- `reader::made::offset_made` meets its contract: an offset that is too low is refused first. Assumes nothing.
use borrow.Author.Tests.{le-leb, lt-leb}
use Rattle.item.proofs.Table.{plan_length}
use Rattle.reader.proofs.Offsets.{ends_told}
use Rattle.reader.proofs.made.offset_made.Goals as goal

pub returns-then-at-least : goal.returns-then-at-least
returns-then-at-least c =
    rw (plan_length, ends_told) (simp (lt-leb _ _ c.if-at-least.true))

pub returns : goal.returns
returns c =
    rw (plan_length, ends_told) (simp (le-leb _ _ c.if-at-least.false))
