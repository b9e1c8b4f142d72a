-- `percentile::rank_first` meets its contract: the front, ranked, ascends and gives Q. Assumes nothing.
use mathlib.Core.Path.{sym, ◌∙◌}
use native.Mathlib.Omega.{arith}
use Rattle.percentile.proofs.Front.{front_ranked, q_too_few, q_of_front}
use Rattle.percentile.proofs.rank_first.Goals as goal

pub returns-then-m-lt-FEWEST-clause-value : goal.returns-then-m-lt-FEWEST-clause-value
returns-then-m-lt-FEWEST-clause-value c =
    sym (q_too_few c.args.lane.now c.args.m c.requires.0 c.rank.ensures (omega arith))

pub q_of-requires : goal.q_of-requires
q_of-requires c =
    front_ranked c.args.lane.now c.args.m c.requires.0 c.rank.ensures (omega arith) c.requires.1

pub returns-clause-value : goal.returns-clause-value
returns-clause-value c =
    c.q_of.ensures ∙ q_of_front c.args.lane.now c.args.m c.requires.0 c.rank.ensures (omega arith)
