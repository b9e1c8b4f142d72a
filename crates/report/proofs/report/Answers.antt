-- `report::report` meets its contract: where the lines fit they are written from place 0 on, and else nothing is. Assumes nothing.
use Prim.Native.Nat.{◌≤◌, ◌<◌}
use mathlib.Core.Path.{◌≡◌, sym, ◌∙◌}
use lib.ListN.{length}
use borrow.Author.Rules.{rules}
use borrow.Author.Tests.{leb-true, leb-false}
use Rattle.report.specs.Lines.{judged_text, buffer_written}
use Rattle.report.proofs.Fitting.{wrote_length, wrote_buffer, short_length, short_buffer}
use Rattle.report.proofs.report.Goals as goal

pub returns-then-not-fits : goal.returns-then-not-fits
returns-then-not-fits c =
    let short : length c.args.buffer.now < length (judged_text c.args.trip) = leb-false _ _ (sym c.fits.ensures ∙ c.if-not-fits.true) in
    (sym (short_length _ _ short), sym (short_buffer _ _ short))

pub returns : goal.returns
returns c =
    let fits : length (judged_text c.args.trip) ≤ length c.args.buffer.now = leb-true _ _ (sym c.fits.ensures ∙ c.if-not-fits.false) in
    let wrote = c.put.ensures.wrote in
    let is : c.put.new.writing.buffer.now ≡ buffer_written (judged_text c.args.trip) c.args.buffer.now = wrote_buffer wrote fits in
    (wrote_length wrote fits, search (rules, is))
