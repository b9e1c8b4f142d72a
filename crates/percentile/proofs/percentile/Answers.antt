-- `percentile::percentile` meets its contract: a refusal touches nothing, and accepted values are copied to the front and ranked there.
-- Assumes nothing.
use Rattle.std.proofs.lemmas.Result.{err_from_is_err_and}
use Rattle.percentile.proofs.Refusals.{refused_given, ranked_given}
use Rattle.percentile.proofs.percentile.Goals as goal

pub returns-in_err-check-clause-value : goal.returns-in_err-check-clause-value
returns-in_err-check-clause-value c =
    let given = err_from_is_err_and c.from_residual.result c.from_residual.ensures.1 in
    rw (given.1, given.2) (refused_given c.args.values.now c.args.ranks.now c.in_err-check.field-0.0 c.in_err-check.ensures).0

pub returns-in_err-check-clause-ranks_after : goal.returns-in_err-check-clause-ranks_after
returns-in_err-check-clause-ranks_after c =
    (refused_given c.args.values.now c.args.ranks.now c.in_err-check.field-0.0 c.in_err-check.ensures).1

pub returns : goal.returns
returns c =
    let is = ranked_given c.args.values.now c.args.ranks.now c.copy.new.lane c.rank_first.new.lane c.rank_first.result c.in_ok-check.ensures c.copy.ensures (c.rank_first.ensures.value, c.rank_first.ensures.lane_after) in
    record { value = is.0; ranks_after = is.1 }
