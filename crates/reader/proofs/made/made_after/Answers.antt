-- `reader::made::made_after` meets its contract: too many seconds are refused first. Assumes nothing.
use mathlib.Core.Path.{refl, sym}
use lib.Dec.{leb}
use Rattle.base.specs.Limits.{trip_limit}
use Rattle.base.specs.Plan.{plan_in_range}
use Rattle.item.specs.Format.{plan_kind, item_length}
use borrow.Author.Tests.{le-leb, lt-leb}
use Rattle.reader.specs.Inside.{can_end, made_after}
use Rattle.reader.proofs.Testing.{middle_false, middle_true}
use Rattle.reader.proofs.made.made_after.Goals as goal

pub returns-then-seconds-gt-TRIP : goal.returns-then-seconds-gt-TRIP
unfolding made_after
returns-then-seconds-gt-TRIP c =
    let r = c.args.reader in sym (middle_false (plan_in_range r.plan) (leb r.seconds trip_limit) (can_end r.seconds (item_length plan_kind) r.at) (lt-leb _ _ c.if-seconds-gt-TRIP.true))

pub returns : goal.returns
unfolding made_after
returns c =
    let r = c.args.reader in
    rw (middle_true (plan_in_range r.plan) (leb r.seconds trip_limit) (can_end r.seconds (item_length plan_kind) r.at) (le-leb _ _ c.if-seconds-gt-TRIP.false), c.plan_in_range.ensures, c.offset_made.ensures) refl
