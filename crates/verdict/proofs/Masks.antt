-- Marking the reasons one after the other, each with a higher bit, makes the number of their bits. Assumes nothing.
use Prim.Native.Nat.{ℕ, suc, ◌+◌, ◌*◌, ◌^◌, ◌≤◌, ◌<◌}
use mathlib.Core.Path.{◌≡◌, refl, sym, ◌∙◌, ap}
use mathlib.Core.Bool.{Bool, true, false}
use mathlib.Core.List.{List, [], ◌∷◌, map}
use native.Mathlib.Nat.{pow-suc, mul-add, mul_assoc, one-mul}
use native.Mathlib.Omega.{arith}
use lib.Bits.{bit_or, or_shifted_r}
use lib.ListN.{get_or, drop}
use Rattle.std.proofs.lemmas.List.{drop_all}
use Rattle.std.proofs.Math.Seq.{drop-cons}
use Rattle.base.specs.Words.{pick}
use Rattle.reasons.specs.declared.Figures.{Figures}
use Rattle.reasons.specs.declared.Reason.{Reason}
use Rattle.reasons.specs.declared.Reason.TheVariants.{TripLength, MissingSeconds, ShortPart, ShareOfDistance, UrbanMean, SlowSeconds, FewFastSeconds, TooFast, EndsApart, TooHigh, TooMuchClimb, FewProducts, LivelyBin, DullBin, NoWindows, OutsideBand}
use Rattle.reasons.specs.Reasons.{holds, all_reasons}
use Rattle.reasons.specs.Inside.{named}
use Rattle.verdict.specs.Verdict.{mask_of, verdict}
use Rattle.verdict.proofs.Numbers.{number_of, verdict-number}

-- one reason marked, where it holds
abbrev marked : ℕ → ℕ → Bool → ℕ
marked reasons mask on = pick on (bit_or reasons mask) reasons

-- a mark with bit k, above the bits that are there, adds it
mark_adds : (k acc : ℕ) (on : Bool) → acc < 2 ^ k → marked acc (2 ^ k) on ≡ acc + 2 ^ k * pick on 1 0
mark_adds k acc true small = ap (bit_or acc) (sym (one-mul (2 ^ k))) ∙ or_shifted_r 1 k acc small ∙ omega arith
mark_adds k acc false small = omega arith

-- marks from bit k on
abbrev mark_all : ℕ → ℕ → List Bool → ℕ
mark_all k acc [] = acc
mark_all k acc (on ∷ rest) = mark_all (suc k) (marked acc (2 ^ k) on) rest

-- what one mark leaves for the others
regroup : (acc power bit rest : ℕ) → acc + power * bit + power * 2 * rest ≡ acc + power * (bit + 2 * rest)
regroup acc power bit rest = rw (mul-add power bit (2 * rest), mul_assoc power 2 rest) (omega arith)

still_below : (acc power : ℕ) (on : Bool) → acc < power → acc + power * pick on 1 0 < power * 2
still_below acc power true small = omega arith
still_below acc power false small = omega arith

mark_all_lem : (k acc : ℕ) (reasons : List Bool) → acc < 2 ^ k → mark_all k acc reasons ≡ acc + 2 ^ k * number_of reasons
unfolding number_of
mark_all_lem k acc [] small = omega arith
mark_all_lem k acc (on ∷ rest) small =
    let next : marked acc (2 ^ k) on < 2 ^ suc k = rw (mark_adds k acc on small, pow-suc 2 k) (still_below acc (2 ^ k) on small) in
    mark_all_lem (suc k) (marked acc (2 ^ k) on) rest next
    ∙ rw (mark_adds k acc on small, pow-suc 2 k) (regroup acc (2 ^ k) (pick on 1 0) (number_of rest))

-- these reasons marked one after the other, each where it holds
unfoldable pub mark_these : Figures → ℕ → List Reason → ℕ
mark_these f acc [] = acc
mark_these f acc (reason ∷ rest) = mark_these f (marked acc (mask_of (named reason)) (holds (named reason) f)) rest

-- all of them, by their names in the code
abbrev pub every_reason : List Reason
every_reason =
    TripLength
    ∷ MissingSeconds
    ∷ ShortPart
    ∷ ShareOfDistance
    ∷ UrbanMean
    ∷ SlowSeconds
    ∷ FewFastSeconds
    ∷ TooFast
    ∷ EndsApart
    ∷ TooHigh
    ∷ TooMuchClimb
    ∷ FewProducts
    ∷ LivelyBin
    ∷ DullBin
    ∷ NoWindows
    ∷ OutsideBand
    ∷ []

-- the sixteen marks make the verdict
pub marks_make_verdict : (f : Figures) → mark_these f 0 every_reason ≡ verdict f
unfolding mark_these
marks_make_verdict f = mark_all_lem 0 0 (map (λ reason. holds reason f) all_reasons) (omega arith) ∙ omega (arith, verdict-number f)

-- none is left to mark
pub none_left : (f : Figures) (acc i : ℕ) → 16 ≤ i → mark_these f acc (drop i every_reason) ≡ acc
unfolding mark_these
none_left f acc i past = rw (drop_all i every_reason past) refl

-- one of them marked where it holds, the rest is still to mark
module _ (f : Figures) (acc i : ℕ) (inside : i < 16) (here : Reason) (is : here ≡ get_or every_reason i TripLength) (so_far : mark_these f acc (drop i every_reason) ≡ verdict f) where
  one_less : mark_these f (marked acc (mask_of (named here)) (holds (named here) f)) (drop (i + 1) every_reason) ≡ verdict f
  unfolding mark_these
  one_less =
      let after : suc i ≡ i + 1 = omega arith in
      rw (is, ← after) (rw (drop-cons every_reason i TripLength inside) at so_far)

  pub one_marked : (mask : ℕ) → mask ≡ mask_of (named here) → holds (named here) f ≡ true → mark_these f (bit_or acc mask) (drop (i + 1) every_reason) ≡ verdict f
  one_marked mask its so = rw its (rw so at one_less)

  pub one_left : holds (named here) f ≡ false → mark_these f acc (drop (i + 1) every_reason) ≡ verdict f
  one_left not_so = rw not_so at one_less
