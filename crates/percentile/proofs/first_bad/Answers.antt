-- `percentile::first_bad` meets its contract: the first value that the position finds is the first that is out of range.
-- Assumes nothing.
use Prim.Native.Nat.{ℕ, ◌≤◌, ◌<◌}
use mathlib.Core.List.{List}
use mathlib.Core.Path.{◌≡◌, sym}
use borrow.Author.Rules.{rules}
use borrow.Author.Tests.{tests, le-leb, lt-leb}
use native.Mathlib.Omega.{arith}
use lib.ListN.{length}
use Rattle.std.specs.Prelude.{Option, Some, None, MatchOption, unwrap_or}
use Rattle.std.specs.List.{AllWithin, HoldsAt}
use Rattle.std.proofs.lemmas.Iterator.{IsFirst-from_position, YieldsList-from_slice}
use Rattle.base.proofs.Search.{stops_at, comes_to}
use Rattle.percentile.specs.Percentile.{first_bad_product}
use Rattle.percentile.proofs.first_bad.Goals as goal

first_found : (values : List ℕ) (r : Option ℕ) → MatchOption r (AllWithin (λ v. v ≤ 625_000_000) values 0 (length values)) (λ i. (i < length values) × HoldsAt (λ v. 625_000_000 < v) values i × AllWithin (λ v. v ≤ 625_000_000) values 0 i) → unwrap_or r (length values) ≡ first_bad_product values
unfolding first_bad_product
first_found values None good = sym (comes_to _ (length values) (length values) (omega arith) (omega arith) (λ k h. le-leb _ _ (good k 0 (omega arith) h)))
first_found values (Some i) found = sym (stops_at _ (length values) i found.0 (λ k h. le-leb _ _ (found.2 k 0 (omega arith) h)) (lt-leb _ _ (found.1 0)))

pub returns-clause-value : goal.returns-clause-value
returns-clause-value c =
    let values = c.args.values.now in
    first_found values c.position.result
    (IsFirst-from_position _ _ c.position.result (λ v. 625_000_000 < v) (λ v. v ≤ 625_000_000) c.position.ensures.ran (YieldsList-from_slice values cc) (λ x q k. search (rules, tests)) (λ x q k. search (rules, tests)))
