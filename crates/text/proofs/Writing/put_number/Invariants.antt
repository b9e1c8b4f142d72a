-- `text::Writing::put_number` meets its contract: the digits of the rest are still to be stored, and the last of them may be stored first.
-- Assumes nothing.
use Rattle.std.proofs.Common.{◌≡◌, ◌-◌, length}
use lib.Seq.{sets}
use Rattle.text.specs.Text.{decimal}
use Rattle.text.proofs.Decimal.{last_digits}
use Rattle.text.proofs.Writing.put_number.Given as goal

abbrev pub invariant-loop-place : goal.invariant-loop-place
invariant-loop-place l = (length l.self.buffer.now ≡ length l.fn.self.buffer.now)
    × (l.self.buffer.ghost_name ≡ l.fn.self.buffer.ghost_name)
    × (l.self.at ≡ l.fn.self.at)
    × (sets l.fn.self.buffer.now l.fn.self.at (decimal l.n) ≡ sets l.self.buffer.now l.fn.self.at (last_digits (l.place - l.fn.self.at) l.rest))
