-- Laws of writing: texts written one behind the other are their joined text. Assumes nothing.
use Prim.Native.Nat.{ℕ, suc, ◌+◌, ◌-◌, ◌/◌, ◌%◌, ◌<◌, ◌≤◌}
use mathlib.Core.Path.{◌≡◌, refl, sym, ◌∙◌, ap}
use mathlib.Core.List.{List, [], ◌∷◌, ◌++◌}
use native.Mathlib.Nat.{le_refl}
use native.Mathlib.Omega.{arith}
use lib.ListN.{length, take, drop, set, length-append}
use Rattle.std.proofs.lemmas.List.{drop-drop, append_assoc}
use lib.Seq.{sets, sets-eq, length-sets, set_comm}
use borrow.Rule.Slice.PartMut.{put_mid}
use Rattle.base.proofs.Store.{sets_append}
use Rattle.text.specs.Text.{digit}
use Rattle.text.proofs.Decimal.{last_digits, length_last}
use Rattle.text.specs.declared.Writing.{Writing}
use Rattle.text.specs.Inside.{Wrote, Fits, Writes}

-- a byte stored behind a text may as well be stored before it
pub sets_past : (xs l : List ℕ) (i k a : ℕ) → i + length xs ≤ k → sets (set l k a) i xs ≡ set (sets l i xs) k a
sets_past [] l i k a h = refl
sets_past (x ∷ xs) l i k a h =
    ap (λ (m : List ℕ). sets m (suc i) xs) (set_comm l k i a x (λ (e : k ≡ i). omega arith))
    ∙ sets_past xs (set l i x) (suc i) k a (omega arith)

-- the last of some digits may be stored first
last_first : (l : List ℕ) (at k n : ℕ) → sets l at (last_digits (suc k) n) ≡ sets (set l (at + k) (digit (n % 10))) at (last_digits k (n / 10))
unfolding last_digits
last_first l at k n =
    sym (sets_append l at (last_digits k (n / 10)) (digit (n % 10) ∷ []))
    ∙ sym (sets_past (last_digits k (n / 10)) l at (at + length (last_digits k (n / 10))) (digit (n % 10)) (le_refl _))
    ∙ ap (λ (j : ℕ). sets (set l (at + j) (digit (n % 10))) at (last_digits k (n / 10))) (length_last k (n / 10))

-- so what stands at a place is the digit there of what is left
pub last_stored : (l : List ℕ) (at place n : ℕ) → at < place → sets l at (last_digits (place - at) n) ≡ sets (set l (place - 1) (digit (n % 10))) at (last_digits (place - 1 - at) (n / 10))
last_stored l at place n h =
    let many : place - at ≡ suc (place - 1 - at) = omega arith in
    let there : at + (place - 1 - at) ≡ place - 1 = omega arith in
    rw many (rw there at (last_first l at (place - 1 - at) n))

-- a text copied to its places is stored there
pub wrote_behind : (text buffer : List ℕ) (from n : ℕ) {copied : List ℕ} → n ≡ length text → from + length text ≤ length buffer → copied ≡ text → Wrote buffer from text (put_mid from n buffer copied) (from + length text)
wrote_behind text buffer from n many room is =
    record { stored = rw (is, many, drop-drop (length text) from buffer, ← append_assoc (take from buffer) text (drop (from + length text) buffer)) (sym (sets-eq text buffer from room)); behind = refl }

-- one text and then another
pub both_wrote : {b c d x y : List ℕ} {i j k : ℕ} → Wrote b i x c j → Wrote c j y d k → Wrote b i (x ++ y) d k
both_wrote {b} {c} {d} {x} {y} {i} p q =
    record {
      stored = q.stored ∙ rw (p.stored, p.behind) (sets_append b i x y);
      behind = omega (arith, q.behind, p.behind, length-append x y);
    }

-- and both in the buffer that was lent
pub both_written : {a b c : Writing} {x y : List ℕ} → Writes a x b → Writes b y c → Writes a (x ++ y) c
both_written {x} {y} p q = record { wrote = both_wrote {x = x} {y = y} p.wrote q.wrote; same_buffer = q.same_buffer ∙ p.same_buffer }

-- the room for two texts is room for the first
pub fits_first : (a : Writing) (x y : List ℕ) → Fits a (x ++ y) → Fits a x
fits_first a x y room = omega (arith, length-append x y)

-- and for the second, when the first is written
pub fits_next : {a b : Writing} {x : List ℕ} (y : List ℕ) → Fits a (x ++ y) → Writes a x b → Fits b y
fits_next {a} {x} y room p = rw (p.wrote.stored, p.wrote.behind, length-sets a.buffer.now a.at x) (omega (arith, length-append x y))

-- the same of three texts
module _ (a : Writing) (x y z : List ℕ) (room : Fits a (x ++ y ++ z)) where
  pub fits_one : Fits a x
  fits_one = fits_first a x y (fits_first a (x ++ y) z room)

  pub fits_two : {b : Writing} → Writes a x b → Fits b y
  fits_two p = fits_next y (fits_first a (x ++ y) z room) p

  pub fits_three : {b c : Writing} → Writes a x b → Writes b y c → Fits c z
  fits_three p q = fits_next z room (both_written p q)
