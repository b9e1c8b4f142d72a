-- `reader::made::all_zero` meets its contract: all that are left are tested. Assumes nothing.
use Rattle.std.proofs.Common.{ℕ, eqb, Bool, ◌&&◌, drop, refl, rules, tests, ◌∙◌}
use Rattle.std.specs.List.{list_all}
use Rattle.std.proofs.lemmas.Iterator.{YieldsList-from_slice}
use Rattle.std.proofs.lemmas.Iterator.Adapters.{YieldsList-from_skip}
use Rattle.std.proofs.lemmas.Iterator.Search.{all_from_yields_List}
use Rattle.std.proofs.lemmas.List.Recursion.{same_from_clauses}
use Rattle.reader.specs.Inside.{all_zero}
use Rattle.reader.proofs.made.all_zero.Goals as goal

pub returns : goal.returns
unfolding all_zero
returns c =
    all_from_yields_List (λ byte. eqb byte 0) _ _ c.all.result c.all.ensures.ran (YieldsList-from_skip c.args.from (YieldsList-from_slice c.args.bytes.now cc) c.skip.ensures.count) (λ x b q k. search (rules, tests))
    ∙ same_from_clauses (list_all (λ byte. eqb byte 0)) all_zero (λ (byte : ℕ) (rest : Bool). eqb byte 0 && rest) refl (λ _ _. refl) (λ _ _. refl) (drop c.args.from c.args.bytes.now)
