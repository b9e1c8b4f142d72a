-- A lane that is written from the front: values, and behind them what was there before. Assumes nothing.
use Prim.Native.Nat.{ℕ, suc, ◌+◌, ◌≤◌, ◌<◌}
use mathlib.Core.Path.{◌≡◌, refl, ◌∙◌}
use mathlib.Core.List.{List, [], ◌∷◌, ◌++◌, append_assoc, append-nil}
use native.Mathlib.Nat.{add-zero}
use native.Mathlib.Numerals.{add-one}
use native.Mathlib.Omega.{arith}
use lib.ListN.{length, take, drop, get_or, set, length-append}
use lib.Seq.{sets, drop-cons, set_at, take-suc, length-take-le, take_all}

-- one value more in front
pub store_next : (front lane : List ℕ) (k x : ℕ) → length front ≡ k → k < length lane → set (front ++ drop k lane) k x ≡ (front ++ (x ∷ [])) ++ drop (k + 1) lane
store_next front lane k x long h =
    rw (drop-cons lane k 0 h, set_at front (get_or lane k 0) (drop (suc k) lane) x k long, add-one, append_assoc) refl

-- one value more of a list that is copied
pub copy_next : (values lane : List ℕ) (i : ℕ) → i < length values → length values ≤ length lane → set (take i values ++ drop i lane) i (get_or values i 0) ≡ take (i + 1) values ++ drop (i + 1) lane
copy_next values lane i h room =
    store_next (take i values) lane i (get_or values i 0) (length-take-le i values (omega arith)) (omega arith) ∙ rw (add-one, take-suc values i 0 h) refl

-- all of them
pub copied : (values lane : List ℕ) (i : ℕ) → i ≡ length values → take i values ++ drop i lane ≡ values ++ drop (length values) lane
copied values lane i end = rw (end, take_all (length values) values (omega arith)) refl

-- values stored one run behind the other are stored as one
pub sets_append {ℓ} : {A : Type ℓ} (lane : List A) (i : ℕ) (first second : List A) → sets (sets lane i first) (i + length first) second ≡ sets lane i (first ++ second)
sets_append lane i [] second = rw add-zero
sets_append lane i (v ∷ first) second =
    let moved : i + suc (length first) ≡ suc i + length first = omega arith in
    rw moved (sets_append (set lane i v) (suc i) first second)

-- four runs, each behind the one before it, are one run
pub runs_four {ℓ} : {A : Type ℓ} (lane : List A) (at p q r : ℕ) (first second third fourth : List A) → length first ≡ p → p + length second ≡ q → q + length third ≡ r → sets (sets (sets (sets lane at first) (at + p) second) (at + q) third) (at + r) fourth ≡ sets lane at (first ++ (second ++ (third ++ (fourth ++ []))))
runs_four lane at p q r first second third fourth to_p to_q to_r =
    let one : at + p ≡ at + length first = omega arith in
    let two : at + q ≡ at + length (first ++ second) = omega (arith, length-append first second) in
    let three : at + r ≡ at + length (first ++ second ++ third) = omega (arith, length-append first second, length-append (first ++ second) third) in
    rw (one, two, three, sets_append lane at first second, sets_append lane at (first ++ second) third, sets_append lane at (first ++ second ++ third) fourth, append_assoc, append_assoc, append-nil)
