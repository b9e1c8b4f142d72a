-- `report::Judged::fits` meets its contract: no text is longer than the longest, and a shorter buffer is compared with the length. Assumes nothing.
use Prim.Native.Nat.{◌≤◌}
use mathlib.Core.Path.{sym, ◌∙◌}
use native.Mathlib.Omega.{arith}
use lib.ListN.{length}
use borrow.Author.Tests.{le-leb}
use Rattle.report.specs.Lines.{judged_text}
use Rattle.report.proofs.Lengths.{Words, judged-longest}
use Rattle.report.proofs.Judged.fits.Goals as goal

pub returns-then-room-ge-LONGEST_TEXT : goal.returns-then-room-ge-LONGEST_TEXT
returns-then-room-ge-LONGEST_TEXT c =
    let t = c.args.self in
    let words : Words t = record {
      seconds = omega arith;
      missing = omega arith;
      kept = omega arith;
      windows = omega arith;
      moves = omega arith;
      urban = record { windows = omega arith; inside = omega arith };
      rural = record { windows = omega arith; inside = omega arith };
      motorway = record { windows = omega arith; inside = omega arith };
    } in
    let room : length (judged_text t) ≤ c.args.room = omega (arith, judged-longest t words) in
    le-leb _ _ (omega arith) ∙ sym (le-leb _ _ room)
