-- `verdict::judge` meets its contract: sixteen marks, each with a higher bit, make the verdict. Assumes nothing.
use Rattle.std.proofs.Common.{refl, sym, ◌∙◌}
use Rattle.verdict.proofs.Masks.{marks_make_verdict, none_left, one_marked, one_left}
use Rattle.verdict.proofs.judge.Goals.{then-holds, else-holds}
use Rattle.verdict.proofs.judge.Goals as goal

pub loop-reason-init : goal.loop-reason-init
loop-reason-init c = marks_make_verdict _

pub loop-reason-preserved : goal.loop-reason-preserved
loop-reason-preserved c =
    let i = c.loop-reason.reason-index in
    let f = c.args.figures.now in
    elim c.if-holds.branch [
      | then-holds w ↦ rw w.verdict-is (one_marked f _ i c.loop-reason-test.true _ refl c.loop-reason.invariant _ w.mask_of-verdict.ensures (sym c.holds.ensures ∙ w.if-holds.true))
      | else-holds w ↦ rw w.verdict-is (one_left f _ i c.loop-reason-test.true _ refl c.loop-reason.invariant (sym c.holds.ensures ∙ w.if-holds.false))
    ]

pub returns : goal.returns
returns c = sym (none_left _ _ _ c.loop-reason-test.false) ∙ c.loop-reason.invariant
