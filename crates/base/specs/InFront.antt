-- A lane with values written into some of its places: nothing else of it is changed.
use Rattle.std.specs.Prelude.{ℕ, ◌+◌, ◌≤◌, ◌<◌, ◌≡◌, List, length, get_or}

-- n values in the first n places, every place beyond as it was, and the lane as long as it was
pub record InFront {ℓ} {A : Type ℓ} (values : List A) (n : ℕ) (before after : List A) : Type ℓ where
  pub same_length : length after ≡ length before
  pub there : (i : ℕ) (d : A) → i < n → get_or after i d ≡ get_or values i d
  pub beyond : (i : ℕ) (d : A) → n ≤ i → get_or after i d ≡ get_or before i d

-- values in the places from `from` on, every other place as it was, and the lane as long as it was
pub record StoredFrom {ℓ} {A : Type ℓ} (from : ℕ) (values before after : List A) : Type ℓ where
  pub same_length : length after ≡ length before
  pub there : (i : ℕ) (d : A) → i < length values → get_or after (from + i) d ≡ get_or values i d
  pub earlier : (i : ℕ) (d : A) → i < from → get_or after i d ≡ get_or before i d
  pub later : (i : ℕ) (d : A) → from + length values ≤ i → get_or after i d ≡ get_or before i d
