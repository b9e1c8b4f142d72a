-- `report::Judged::length` meets its contract: the digits of the numbers and the bytes besides add up. Assumes nothing.
use native.Mathlib.Omega.{arith}
use Rattle.report.proofs.Lengths.{judged-length}
use Rattle.report.proofs.Judged.length.Goals as goal

pub returns : goal.returns
returns c =
    omega
    (arith, judged-length c.args.self, c.digit_count.ensures.0, c.digit_count-2.ensures.0, c.digit_count-3.ensures.0, c.digit_count-4.ensures.0, c.digit_count-5.ensures.0, c.digits.ensures.0, c.digits-2.ensures.0, c.digits-3.ensures.0)
