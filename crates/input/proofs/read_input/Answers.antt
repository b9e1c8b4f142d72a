-- `input::read_input` meets its contract and ends: each read that leaves the answer unsettled brings a byte, and the reads are as many as
-- the bytes that settle every stream. Assumes nothing.
use Prim.Native.Nat.{◌-◌}
use mathlib.Core.Path.{◌≡◌, refl, sym, ◌∙◌, ap}
use native.Mathlib.Omega.{arith}
use lib.ListN.{length}
use borrow.Author.Rules.{rules}
use Rattle.reader.specs.Inside.{was_made}
use Rattle.reader.proofs.Making.{start_made}
use Rattle.stream.proofs.Writing.{still_lent}
use Rattle.input.specs.Input.{block_most}
use Rattle.input.proofs.Blocks.{has_read_more}
use Rattle.input.proofs.Settling.{enough, enough_is}
use Rattle.input.proofs.Reading.{stands_first, stands_next, none_left}
use Rattle.input.proofs.read_input.Goals as goal

pub loop-init : goal.loop-init
loop-init c =
    record {
      made = ap was_made c.start.ensures ∙ start_made;
      stands = stands_first (enough - 0) _ _ c.start.ensures (omega arith);
      same = record { states = refl; speeds = refl; altitudes = refl; co2 = refl; nox = refl };
    }

pub returns-then-not-reads_on-clause-read : goal.returns-then-not-reads_on-clause-read
returns-then-not-reads_on-clause-read c =
    has_read_more _ _ _ _ _ _ c.loop.invariant.stands.read c.in_ok-input.ensures.fed

pub loop-preserved : goal.loop-preserved
loop-preserved c =
    let read = c.in_ok-input in
    let so_far = c.loop.invariant in
    let long : length c.read_block.new.block ≡ block_most = search rules in
    record {
      made = read.ensures.made;
      stands = stands_next _ _ (omega arith) _ c.loop.made.0 _ c.read_block.new.block read.input _ so_far.stands so_far.made read.ensures.fed (omega (arith, long, read.ensures.within)) (sym c.if-not-reads_on.ensures);
      same = still_lent so_far.same read.ensures.same;
    }

pub unreachable-requires : goal.unreachable-requires
unreachable-requires c =
    none_left _ _ _ _ c.loop.invariant.stands c.loop.invariant.made (omega (arith, enough_is))
