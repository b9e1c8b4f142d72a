-- `sweep::first_out_of_range` meets its contract: the search by position is the definition's (`proofs/Lists.antt`). Assumes nothing.
use mathlib.Core.Path.{◌≡◌, sym, ◌∙◌}
use mathlib.Core.Bool.{not}
use Rattle.std.specs.List.{position}
use Rattle.std.proofs.Common.{rules, tests}
use Rattle.std.proofs.lemmas.Iterator.{YieldsList-from_slice}
use Rattle.std.proofs.lemmas.Iterator.Search.{position_from_yields_List}
use Rattle.base.specs.Second.{co2_in_range}
use Rattle.sweep.proofs.Lists.{first_out_of_range_is, position_unwrapped}
use Rattle.sweep.proofs.first_out_of_range.Goals as goal

pub returns : goal.returns
returns c =
    let co2 = c.args.co2.now in
    let found : c.position.result ≡ position (λ mass. not (co2_in_range mass)) c.args.co2.now = position_from_yields_List (λ mass. not (co2_in_range mass)) _ _ _ c.position.ensures.ran (YieldsList-from_slice co2 cc) (λ x b q k. search (rules, tests)) in
    c.unwrap_or.ensures ∙ rw found (position_unwrapped _ co2) ∙ sym (first_out_of_range_is co2)
