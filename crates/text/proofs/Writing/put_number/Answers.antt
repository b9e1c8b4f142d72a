-- `text::Writing::put_number` meets its contract: the digits of the rest are still to be stored, and the last of them may be stored first.
-- Assumes nothing.
use Rattle.std.proofs.Common.{◌≡◌, ◌+◌, ◌-◌, length, refl, sym, ◌∙◌, arith}
use lib.ListN.{length-set}
use Rattle.text.specs.Text.{decimal}
use Rattle.text.proofs.Decimal.{last_digits, all_digits}
use Rattle.text.proofs.Behind.{last_stored}
use Rattle.text.proofs.Writing.put_number.Goals as goal

pub loop-place-init : goal.loop-place-init
loop-place-init c =
    let a = c.args in
    let many : a.self.now.at + c.digit_count-digits.result - a.self.now.at ≡ length (decimal a.n) = omega (arith, c.digit_count-digits.ensures.0) in
    (refl, refl, refl, rw (many, all_digits a.n) refl)

pub loop-place-preserved : goal.loop-place-preserved
loop-place-preserved c =
    let l = c.loop-place in (
      simp length-set l.invariant.0,
      l.invariant.1,
      l.invariant.2,
      l.invariant.3 ∙ rw c.digit_of.ensures (last_stored l.self.buffer.now c.args.self.now.at l.place l.rest (omega arith)),
    )

pub returns : goal.returns
unfolding last_digits
returns c =
    let l = c.loop-place in
    let none : l.place - c.args.self.now.at ≡ 0 = omega arith in
    record {
      wrote = record { stored = sym (rw none at l.invariant.3); behind = omega (arith, c.digit_count-digits.ensures.0) };
      same_buffer = l.invariant.1;
    }
