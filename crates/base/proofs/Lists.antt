-- The first index of a list at which a test holds, by the library's words for the list. Assumes nothing.
use Prim.Native.Nat.{suc}
use mathlib.Core.Path.{◌≡◌, refl}
use mathlib.Core.Bool.{Bool, true, false, not}
use mathlib.Core.List.{List, [], ◌∷◌}
use lib.Dec.{eqb, eqb-suc-suc, eqb-zero-suc}
use lib.ListN.{length, get_or}
use Rattle.std.specs.List.{list_any}
use Rattle.base.specs.Words.{first_where}

module _ {A : Type 0} (test : A → Bool) (d : A) where
  -- it is past the end exactly where the test holds of none
  pub none_where : (xs : List A) → eqb (first_where (λ i. test (get_or xs i d)) (length xs)) (length xs) ≡ not (list_any test xs)
  unfolding first_where
  none_where [] = refl
  none_where (x ∷ xs) = go (test x) refl (none_where xs)
    where
      rest : Type 0
      rest = eqb (first_where (λ i. test (get_or xs i d)) (length xs)) (length xs) ≡ not (list_any test xs)

      go : (t : Bool) → test x ≡ t → rest → eqb (first_where (λ i. test (get_or (x ∷ xs) i d)) (suc (length xs))) (suc (length xs)) ≡ not (list_any test (x ∷ xs))
      go true e of_rest = rw e (eqb-zero-suc (length xs))
      go false e of_rest = rw (e, eqb-suc-suc (first_where (λ i. test (get_or xs i d)) (length xs)) (length xs)) of_rest
