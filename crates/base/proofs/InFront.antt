-- Values written into a lane, place by place. Assumes nothing.
use Prim.Native.Nat.{ℕ, zero, suc, ◌+◌, ◌-◌, ◌≤◌, ◌<◌}
use mathlib.Core.Path.{◌≡◌, refl, ◌∙◌}
use mathlib.Core.List.{List, [], ◌∷◌}
use native.Mathlib.Omega.{arith}
use lib.ListN.{length, get_or, drop, set, length-append, length-drop, length-set, get_or-append}
use lib.Seq.{sets, get_or-append-add, get_or-drop, get_or-set_same, get_or-set_other}
use Rattle.base.specs.InFront.{InFront, StoredFrom}
use Rattle.base.specs.Words.{with_front}

pub in_front {ℓ} : {A : Type ℓ} (values lane : List A) (n : ℕ) → length values ≡ n → n ≤ length lane → InFront values n lane (with_front values lane)
in_front values lane n long fits =
    record {
      same_length = rw (length-append, length-drop) (omega arith);
      there = λ i d (h : i < n). get_or-append values (drop (length values) lane) d i (omega arith);
      beyond = λ i d (h : n ≤ i). (let past : i ≡ length values + (i - length values) = omega arith in rw past (get_or-append-add values (drop (length values) lane) (i - length values) d ∙ get_or-drop (length values) lane (i - length values) d));
    }

-- values stored one behind the other, where each has a place
pub stored_from {ℓ} : {A : Type ℓ} (values lane : List A) (from : ℕ) → ((i : ℕ) → i < length values → from + i < length lane) → StoredFrom from values lane (sets lane from values)
stored_from [] lane from fits =
    record { same_length = refl; there = λ i d (h : i < 0). absurd (omega arith); earlier = λ i d h. refl; later = λ i d h. refl }
stored_from {A} (v ∷ values) lane from fits =
    step (stored_from values (set lane from v) (suc from) (λ i (h : i < length values). rw (length-set lane from v) (omega (arith, fits (suc i) (omega arith)))))
  where
    step : StoredFrom (suc from) values (set lane from v) (sets (set lane from v) (suc from) values) → StoredFrom from (v ∷ values) lane (sets (set lane from v) (suc from) values)
    step rest =
        record {
          same_length = rest.same_length ∙ length-set lane from v;
          there = there;
          earlier = λ i d (h : i < from). rest.earlier i d (omega arith) ∙ get_or-set_other lane from i v d (λ (e : i ≡ from). omega arith);
          later = λ i d (h : from + suc (length values) ≤ i). rest.later i d (omega arith) ∙ get_or-set_other lane from i v d (λ (e : i ≡ from). omega arith);
        }
      where
        there : (i : ℕ) (d : A) → i < suc (length values) → get_or (sets (set lane from v) (suc from) values) (from + i) d ≡ get_or (v ∷ values) i d
        there zero d h =
            let here : from + 0 ≡ from = omega arith in
            rw here (rest.earlier from d (omega arith) ∙ get_or-set_same lane from v d (omega (arith, fits 0 (omega arith))))
        there (suc i) d h =
            let next : from + suc i ≡ suc from + i = omega arith in
            rw next (rest.there i d (omega arith))
