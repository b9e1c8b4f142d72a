-- The words that the definitions of every crate use.
use Rattle.std.specs.Prelude.{ℕ, zero, suc, ◌+◌, Bool, true, false, not, List, [], ◌∷◌, ◌++◌, length, take, drop}

-- choice by a test: the first where it holds, the second where it does not
abbrev pub pick {ℓ} : {A : Type ℓ} → Bool → A → A → A
pick true a b = a
pick false a b = b

-- the state after the first i seconds, where `one k s` is the state after second k if it was s before
unfoldable pub after_first {ℓ} : {S : Type ℓ} → (ℕ → S → S) → S → ℕ → S
after_first one start zero = start
after_first one start (suc i) = one i (after_first one start i)

-- the sum of a list
unfoldable pub sum : List ℕ → ℕ
sum [] = 0
sum (x ∷ xs) = x + sum xs

-- the sum of the first i numbers of a list
abbrev pub sum_first : ℕ → List ℕ → ℕ
sum_first i xs = sum (take i xs)

-- a lane with values in its first places, the rest as it was
abbrev pub with_front {ℓ} : {A : Type ℓ} → List A → List A → List A
with_front values lane = values ++ drop (length values) lane

-- the first index below n at which a test holds, and n where it holds at none
unfoldable pub first_where : (ℕ → Bool) → ℕ → ℕ
first_where test zero = 0
first_where test (suc n) = pick (test 0) 0 (suc (first_where (λ i. test (suc i)) n))

-- the first index below n that is not good, and n where each is
abbrev pub first_bad : (ℕ → Bool) → ℕ → ℕ
first_bad good n = first_where (λ i. not (good i)) n

-- the sum of a value over those of the first n indices that are in a set
unfoldable pub sum_over : (ℕ → Bool) → (ℕ → ℕ) → ℕ → ℕ
sum_over in_set value = after_first (λ i total. total + pick (in_set i) (value i) 0) 0

-- how many of the first n indices are in a set
abbrev pub how_many : (ℕ → Bool) → ℕ → ℕ
how_many in_set = sum_over in_set (λ i. 1)
