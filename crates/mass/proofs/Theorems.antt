-- What the definitions of the mass step amount to: refused exactly when, the floor, a zero of either sign. Assumes nothing.
use Prim.Native.Nat.{ℕ, ◌+◌, ◌*◌, ◌/◌, ◌≤◌, ◌<◌}
use mathlib.Core.Path.{◌≡◌, refl}
use mathlib.Core.Bool.{Bool, true, false, ◌&&◌}
use mathlib.Core.Logic.{◌↔◌}
use native.Mathlib.Nat.{div-mul-le_self, lt-div-mul-add, add-mul, one-mul, zero-mul, zero-div}
use native.Mathlib.Omega.{arith}
use lib.Dec.{leb, lit≤}
use lib.IntN.{ℤ, pos}
use lib.Ieee.{Float, fin, of_int, le, lt, eq, up, down}
use lib.Ieee.Fits.{down_pos}
use borrow.Author.Tests.{leb-true, leb-false, le-leb, lt-leb}
use Rattle.std.specs.Prelude.{Result, Ok, Err}
use Rattle.base.specs.Words.{pick}
use Rattle.mass.specs.declared.Reading.{Reading}
use Rattle.mass.specs.declared.Reading.TheVariants.{WetPpm, DryPpm, WetPercent, DryPercent}
use Rattle.mass.specs.declared.Setting.{Setting}
use Rattle.base.specs.declared.refusal.Refusal.{Refusal}
use Rattle.base.specs.declared.refusal.Refusal.TheVariants.{MassInput, MassTooLarge}
use Rattle.mass.specs.Inside.{Bounded, bounded}
use Rattle.mass.specs.Mass.{zero_to, reading_in_range, setting_in_range, last_product, whole_part, mass_answer}
use Rattle.mass.specs.Outcomes.{Outcome, bad_input, too_large, fine}
use Rattle.mass.proofs.Products.{times_bounded}
use Rattle.mass.proofs.Inputs.{in_ppm, setting_bounded, ppm_in_percent, wet_at_most, wet_bounded}

-- ---- refused exactly when
module _ (scale : Float) (limit : ℕ) (reading : Reading) (s : Setting) where
  -- one of them holds, with the answer that is given
  pub outcome : Outcome scale limit reading s (mass_answer scale limit reading s)
  unfolding mass_answer
  outcome = go (reading_in_range reading && setting_in_range s) refl (leb whole limit) refl
    where
      whole : ℕ
      whole = whole_part (last_product scale reading s)

      go : (t : Bool) → reading_in_range reading && setting_in_range s ≡ t → (l : Bool) → leb whole limit ≡ l → Outcome scale limit reading s (pick t (pick l (Ok whole) (Err MassTooLarge)) (Err MassInput))
      go false p l q = bad_input p
      go true p false q = too_large p (leb-false whole limit q)
      go true p true q = fine p (leb-true whole limit q)

  -- and no other: each is given whenever what it says holds
  pub only : {answer : Result ℕ Refusal} → Outcome scale limit reading s answer → mass_answer scale limit reading s ≡ answer
  unfolding mass_answer
  only (bad_input p) = rw p
  only (too_large p l) = rw (p, lt-leb (whole_part (last_product scale reading s)) limit l)
  only (fine p l) = rw (p, le-leb (whole_part (last_product scale reading s)) limit l)

  pub refused_exactly : (answer : Result ℕ Refusal) → (mass_answer scale limit reading s ≡ answer) ↔ Outcome scale limit reading s answer
  refused_exactly answer = (λ e. rw e at outcome, only)

-- ---- the whole part is the floor: at most the number m * 2 ^ e = m * up e / down e, and less than 1 below it
pub floor : (t : Bool) (m : ℕ) (e : ℤ) → (whole_part (fin t m e) * down e ≤ m * up e) × (m * up e < (whole_part (fin t m e) + 1) * down e)
unfolding whole_part
floor t m e =
    let less : m * up e < m * up e / down e * down e + down e = lt-div-mul-add (down_pos e) in
    (div-mul-le_self (m * up e) (down e), rw (add-mul (m * up e / down e) 1 (down e), one-mul (down e)) less)

-- ---- "a negative zero reading or flow counts as zero": with a zero of either sign the mass is 0
-- a reading of zero, of either sign
pub data ZeroReading : Reading → Type 0 where
  wet_ppm_lem : (sign : Bool) → ZeroReading (WetPpm (fin sign 0 (pos 0)))
  dry_ppm : (sign : Bool) → ZeroReading (DryPpm (fin sign 0 (pos 0)))
  wet_percent : (sign : Bool) → ZeroReading (WetPercent (fin sign 0 (pos 0)))
  dry_percent : (sign : Bool) → ZeroReading (DryPercent (fin sign 0 (pos 0)))

-- where inputs in range have no whole part, the mass is 0
no_mass : (scale : Float) (limit : ℕ) (reading : Reading) (s : Setting) → reading_in_range reading ≡ true → setting_in_range s ≡ true → whole_part (last_product scale reading s) ≡ 0 → mass_answer scale limit reading s ≡ Ok 0
no_mass scale limit reading s r h none = rw none at (only scale limit reading s (fine (rw (r, h) refl) (omega (arith, none))))

no_whole : {x : Float} → Bounded x 0 → whole_part x ≡ 0
unfolding whole_part
no_whole (bounded {m = m} {e = e} p small) =
    let none : m * up e ≡ 0 = omega (arith, zero-mul (down e)) in
    rw none (zero-div (down e))

zero_bounded : (sign : Bool) → Bounded (fin sign 0 (pos 0)) 0
zero_bounded sign = bounded (λ h. refl) (lit≤ tt)

zero_in_range : {reading : Reading} → ZeroReading reading → reading_in_range reading ≡ true
unfolding reading_in_range zero_to le lt eq of_int
zero_in_range (wet_ppm_lem true) = refl
zero_in_range (wet_ppm_lem false) = refl
zero_in_range (dry_ppm true) = refl
zero_in_range (dry_ppm false) = refl
zero_in_range (wet_percent true) = refl
zero_in_range (wet_percent false) = refl
zero_in_range (dry_percent true) = refl
zero_in_range (dry_percent false) = refl

zero_ppm : {reading : Reading} → ZeroReading reading → Bounded (in_ppm reading) 0
zero_ppm (wet_ppm_lem sign) = zero_bounded sign
zero_ppm (dry_ppm sign) = zero_bounded sign
zero_ppm (wet_percent sign) = times_bounded (zero_bounded sign) ppm_in_percent (lit≤ tt)
zero_ppm (dry_percent sign) = times_bounded (zero_bounded sign) ppm_in_percent (lit≤ tt)

pub zero_reading : {scale : Float} (limit : ℕ) {reading : Reading} (s : Setting) → Bounded scale 1_000_000 → ZeroReading reading → setting_in_range s ≡ true → mass_answer scale limit reading s ≡ Ok 0
unfolding last_product
zero_reading {scale} limit {reading} s b zero h =
    let in_range = setting_bounded s h in
    let none = times_bounded (times_bounded (times_bounded in_range.u (wet_at_most reading s.factor 0 (lit≤ tt) (zero_ppm zero) in_range.factor) (lit≤ tt)) in_range.flow (lit≤ tt)) b (lit≤ tt) in
    no_mass scale limit reading s (zero_in_range zero) h (no_whole none)

pub zero_flow : {scale : Float} (limit : ℕ) (reading : Reading) (s : Setting) → Bounded scale 1_000_000 → (sign : Bool) → s.flow ≡ fin sign 0 (pos 0) → reading_in_range reading ≡ true → setting_in_range s ≡ true → mass_answer scale limit reading s ≡ Ok 0
unfolding last_product
zero_flow {scale} limit reading s b sign zero r h =
    let in_range = setting_bounded s h in
    let flow : Bounded s.flow 0 = rw zero (zero_bounded sign) in
    let wet = times_bounded in_range.u (wet_bounded reading s.factor r in_range.factor) (lit≤ tt) in
    let none = times_bounded (times_bounded wet flow (lit≤ tt)) b (lit≤ tt) in
    no_mass scale limit reading s r h (no_whole none)
