use Rattle.std.proofs.Common.{◌≡◌, drop}
use Rattle.verdict.specs.Verdict.{verdict}
use Rattle.verdict.proofs.Masks.{mark_these}
use Rattle.verdict.proofs.judge.Given as goal

-- the reasons that are left, marked one after the other, make the verdict
abbrev pub invariant-loop-reason : goal.invariant-loop-reason
invariant-loop-reason l = mark_these l.figures l.verdict (drop l.reason-index l.reason-items) ≡ verdict l.figures
