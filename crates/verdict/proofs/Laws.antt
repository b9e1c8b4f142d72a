-- What the verdict says: each bit is the test of its reason, and it is zero exactly when none holds. Assumes nothing.
use Prim.Native.Nat.{ℕ}
use mathlib.Core.Path.{◌≡◌, refl, sym, ◌∙◌}
use mathlib.Core.Bool.{false}
use mathlib.Core.List.{map}
use mathlib.Core.Logic.{◌↔◌}
use lib.ListN.{get_or}
use Rattle.reasons.specs.declared.Figures.{Figures}
use Rattle.reasons.specs.Reasons.{Reason, trip_length, missing_seconds, short_part, share_of_distance, urban_mean, slow_seconds, few_fast_seconds, too_fast, ends_apart, too_high, too_much_climb, few_products, lively_bin, dull_bin, no_windows, outside_band, all_reasons, holds}
use Rattle.verdict.specs.Verdict.{verdict, bit_set, has_any, bit_number, mask_of}
use Rattle.verdict.proofs.Numbers.{verdict-number}
use Rattle.verdict.proofs.Bits.{bit_of_number, has_tests_bit, none_set, zero_sets_none}

-- a reason stands in the list at the number of its bit
in_place : (reason : Reason) (f : Figures) → get_or (map (λ r. holds r f) all_reasons) (bit_number reason) false ≡ holds reason f
in_place trip_length f = refl
in_place missing_seconds f = refl
in_place short_part f = refl
in_place share_of_distance f = refl
in_place urban_mean f = refl
in_place slow_seconds f = refl
in_place few_fast_seconds f = refl
in_place too_fast f = refl
in_place ends_apart f = refl
in_place too_high f = refl
in_place too_much_climb f = refl
in_place few_products f = refl
in_place lively_bin f = refl
in_place dull_bin f = refl
in_place no_windows f = refl
in_place outside_band f = refl

-- the bit of a reason is its test
pub bit_is : (reason : Reason) (f : Figures) → bit_set (bit_number reason) (verdict f) ≡ holds reason f
bit_is reason f = rw (verdict-number f) (bit_of_number (bit_number reason) (map (λ r. holds r f) all_reasons) ∙ in_place reason f)

-- the reason's mask tests its bit
pub mask_tests : (reason : Reason) (number : ℕ) → has_any number (mask_of reason) ≡ bit_set (bit_number reason) number
mask_tests reason number = has_tests_bit (bit_number reason) number

-- the verdict is zero exactly when no reason holds
pub zero_exactly : (f : Figures) → (verdict f ≡ 0) ↔ ((reason : Reason) → holds reason f ≡ false)
zero_exactly f =
    rw (verdict-number f)
    (λ zero reason. sym (in_place reason f) ∙ zero_sets_none (bit_number reason) (map (λ r. holds r f) all_reasons) zero, none_set (λ r. holds r f) all_reasons)
