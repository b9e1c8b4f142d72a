-- `report::report_refusal` meets its contract: where the line fits it is written from place 0 on, and else nothing is. Assumes nothing.
use Prim.Native.Nat.{◌≤◌, ◌<◌}
use mathlib.Core.Path.{◌≡◌, sym}
use native.Mathlib.Omega.{arith}
use lib.ListN.{length}
use Rattle.report.specs.Lines.{refusal_text, buffer_written}
use Rattle.text.specs.Inside.{Wrote}
use Rattle.report.proofs.Lengths.{refusal_length}
use Rattle.report.proofs.Fitting.{wrote_length, wrote_buffer, short_length, short_buffer}
use Rattle.report.proofs.report_refusal.Goals as goal

pub returns-then-buffer-digit_count : goal.returns-then-buffer-digit_count
returns-then-buffer-digit_count c =
    let a = c.args in
    let short : length a.buffer.now < length (refusal_text a.number a.place) = omega (arith, refusal_length a.number a.place, c.digit_count.ensures.0, c.digit_count-2.ensures.0) in
    (sym (short_length _ _ short), sym (short_buffer _ _ short))

pub returns : goal.returns
unfolding refusal_text
returns c =
    let a = c.args in
    let fits : length (refusal_text a.number a.place) ≤ length a.buffer.now = omega (arith, refusal_length a.number a.place, c.digit_count.ensures.0, c.digit_count-2.ensures.0) in
    let wrote : Wrote a.buffer.now 0 (refusal_text a.number a.place) c.put_line.new.self.buffer.now c.put_line.new.self.at = c.put_line.ensures.wrote in
    let is : c.put_line.new.self.buffer.now ≡ buffer_written (refusal_text a.number a.place) a.buffer.now = wrote_buffer wrote fits in
    (wrote_length wrote fits, grind (arith, is))
