-- `reader::made::was_made` meets its contract: what was read first, then what is held or what settled it. Assumes nothing.
use mathlib.Core.Path.{sym, ◌∙◌}
use Rattle.reader.proofs.Testing.{standing_bad, made_open, made_settled}
use Rattle.reader.proofs.made.was_made.Goals as goal

pub returns-then-not-standing_made : goal.returns-then-not-standing_made
returns-then-not-standing_made c =
    sym (standing_bad c.args.reader (sym c.standing_made.ensures ∙ c.if-not-standing_made.true))

pub returns-then-reader-eq-ACCEPTED : goal.returns-then-reader-eq-ACCEPTED
returns-then-reader-eq-ACCEPTED c =
    c.carry_made.ensures ∙ sym (made_open c.args.reader (sym c.standing_made.ensures ∙ c.if-not-standing_made.false) c.if-reader-eq-ACCEPTED.true)

pub returns : goal.returns
returns c =
    c.settled_made.ensures ∙ sym (made_settled c.args.reader (sym c.standing_made.ensures ∙ c.if-not-standing_made.false) c.if-reader-eq-ACCEPTED.false)
