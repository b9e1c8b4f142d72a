-- `input::read_block` meets its contract: what came is fed to the reader, once. Assumes nothing.
use mathlib.Core.Path.{◌≡◌}
use lib.ListN.{length}
use borrow.Author.Rules.{rules}
use Rattle.input.specs.Input.{block_most}
use Rattle.input.proofs.Blocks.{block_of, has_fed}
use Rattle.input.proofs.read_block.Goals as goal

pub returns-clause-fed : goal.returns-clause-fed
returns-clause-fed c =
    let next = c.take-next in
    let long : length c.read.new.buf ≡ block_most = search rules in
    has_fed _ c.args.made.reader (block_of c.in-Ok.came c.read.new.buf long (λ i. search rules)) next.ensures.reader next.ensures.left
