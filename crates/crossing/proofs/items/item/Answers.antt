-- `crossing::items::item` meets its contract: it is `item::read_item`, an item or its refusal crossing as the definitions of `item` say. Assumes nothing.
use mathlib.Core.Path.{refl, sym, ◌∙◌}
use native.Mathlib.Omega.{arith}
use borrow.Author.Tests.{ne_eqb}
use Rattle.base.specs.Refusal.{number_of}
use Rattle.item.proofs.Prefix.{whole_some}
use Rattle.item.specs.Item.{refusal_of, place_of, length_of}
use Rattle.base.proofs.Numbers.{refusal_some}
use Rattle.crossing.specs.Items.{contents_at, front_across}
use Rattle.crossing.proofs.items.item.Goals as goal

pub bounds-bytes-0 : goal.bounds-bytes-0
bounds-bytes-0 c =
    omega (arith, whole_some c.args.bytes.now _ _ (sym c.read_item.ensures ∙ c.in-Ok.is))

pub returns-in-Ok : goal.returns-in-Ok
unfolding front_across refusal_of contents_at length_of place_of
returns-in-Ok c =
    rw (← c.read_item.ensures, c.in-Ok.is, ← c.contents_of.ensures, c.answer.ensures)

pub returns-in-Err : goal.returns-in-Err
unfolding front_across refusal_of contents_at length_of place_of
returns-in-Err c =
    rw (← c.read_item.ensures, c.in-Err.is, c.answer-in-Err.ensures, c.from.ensures, ne_eqb (number_of c.in-Err.refusal) 0 (refusal_some c.in-Err.refusal)) refl
