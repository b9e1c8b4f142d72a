-- `reader::made::number_made` meets its contract: what no refusal has for its number settles nothing. Assumes nothing.
use mathlib.Core.Path.{sym}
use Rattle.reader.specs.Reader.{plan_before}
use Rattle.reader.proofs.Settled.{no_refusal}
use Rattle.reader.proofs.made.number_made.Goals as goal

pub returns-in-Err : goal.returns-in-Err
returns-in-Err c =
    let r = c.args.reader in sym (no_refusal r.seconds r.refusal (plan_before r.at) c.in-Err.ensures)
