-- `sweep::Kept::check` meets its contract: each return is an outcome of the definition (`proofs/Refusals.antt`). Assumes nothing.
use mathlib.Core.Path.{sym, ◌∙◌, ap}
use mathlib.Core.Bool.{and-eq-true_iff}
use lib.Dec.{leb}
use borrow.Author.Tests.{leb-true, leb-false, ltb-true, ltb-false}
use Rattle.base.specs.Limits.{reference_most}
use Rattle.base.specs.Refusal.{fault, out_of_range}
use Rattle.sweep.specs.Outcomes.{Outcome}
use Rattle.sweep.proofs.Refusals.{faulted, measured}
use Rattle.sweep.proofs.Kept.check.Goals as goal

pub returns-then-not-reference_in_range : goal.returns-then-not-reference_in_range
returns-then-not-reference_in_range c =
    c.into.ensures ∙ sym (faulted _ _ _ _ (Outcome.bad_reference (sym c.if-not-reference_in_range.ensures)))

pub returns-then-too_many : goal.returns-then-too_many
returns-then-too_many c =
    c.into-then-too_many.ensures ∙ sym (faulted _ _ _ _ (Outcome.if_too_many (sym c.if-not-reference_in_range.ensures) (ltb-true _ _ (sym c.if-too_many.ensures))))

pub returns-then-room-self : goal.returns-then-room-self
returns-then-room-self c =
    c.into-then-room-self.ensures
    ∙ sym (faulted _ _ _ _ (Outcome.if_too_short (sym c.if-not-reference_in_range.ensures) (ltb-false _ _ (sym c.if-too_many.ensures)) c.if-room-self.true))

pub returns-then-not-all_in_range : goal.returns-then-not-all_in_range
returns-then-not-all_in_range c =
    ap (fault out_of_range) c.first_out_of_range.ensures
    ∙ sym (faulted _ _ _ _ (Outcome.bad_mass (sym c.if-not-reference_in_range.ensures) (ltb-false _ _ (sym c.if-too_many.ensures)) c.if-room-self.false (leb-false _ _ (sym c.if-not-all_in_range.ensures))))

pub is_reached-requires : goal.is_reached-requires
is_reached-requires c =
    let in_range = (and-eq-true_iff (leb 1 c.args.self.now.reference) (leb c.args.self.now.reference reference_most)).0 (sym c.if-not-reference_in_range.ensures) in
    (leb-true 1 _ in_range.0, measured _ (ltb-false _ _ (sym c.if-too_many.ensures)) (leb-true _ _ (sym c.if-not-all_in_range.ensures)))

pub returns-then-not-is_reached : goal.returns-then-not-is_reached
returns-then-not-is_reached c =
    c.into-then-not-is_reached.ensures
    ∙ sym (faulted _ _ _ _ (Outcome.never_reached (sym c.if-not-reference_in_range.ensures) (ltb-false _ _ (sym c.if-too_many.ensures)) c.if-room-self.false (leb-true _ _ (sym c.if-not-all_in_range.ensures)) (sym c.if-not-is_reached.ensures)))

pub returns : goal.returns
returns c =
    sym (faulted _ _ _ _ (Outcome.fine (record { reference_is_in_range = sym c.if-not-reference_in_range.ensures; few = ltb-false _ _ (sym c.if-too_many.ensures); places = c.if-room-self.false; in_range = leb-true _ _ (sym c.if-not-all_in_range.ensures); reached = sym c.if-not-is_reached.ensures })))
