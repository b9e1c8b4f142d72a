-- `mass::mass_of` meets its contract: each return is a case of the answer (`only` of `proofs/Theorems.antt`), and inputs in range keep the last product
-- where `whole_part` can read it (`proofs/Inputs.antt`). Assumes nothing.
use mathlib.Core.Path.{◌≡◌, refl, sym, ◌∙◌}
use mathlib.Core.Bool.{Bool, true, false, ◌&&◌}
use native.Mathlib.Omega.{arith}
use Rattle.mass.specs.Mass.{setting_in_range, whole_part, last_product}
use Rattle.mass.specs.Outcomes.{bad_input, too_large, fine}
use Rattle.mass.proofs.Theorems.{only}
use Rattle.mass.proofs.Inputs.{product_bounded}
use Rattle.mass.proofs.mass_of.Goals.{then-not-reading_in_range-via-then-not-reading_in_range, then-not-reading_in_range-via-else-not-reading_in_range+then-not-setting_in_range}
use Rattle.mass.proofs.mass_of.Goals as goal

-- two tests of the code and what they are by the definition
both : {a b r s t : Bool} → a ≡ r → b ≡ s → a ≡ true → b ≡ t → r && s ≡ t
both p q h k = rw (← p, ← q, h, k) refl

first : {a r : Bool} (s : Bool) → a ≡ r → a ≡ false → r && s ≡ false
first s p h = rw (← p, h) refl

pub returns-then-not-reading_in_range : goal.returns-then-not-reading_in_range
returns-then-not-reading_in_range c =
    let a = c.args in
    elim c.then-not-reading_in_range.branch [
      | then-not-reading_in_range-via-then-not-reading_in_range w ↦ sym (only a.scale a.limit a.reading a.setting (bad_input (first (setting_in_range a.setting) c.reading_in_range.ensures w.if-not-reading_in_range.true)))
      | then-not-reading_in_range-via-else-not-reading_in_range+then-not-setting_in_range w ↦ sym (only a.scale a.limit a.reading a.setting (bad_input (both c.reading_in_range.ensures w.setting_in_range.ensures w.if-not-reading_in_range.false w.if-not-setting_in_range.true)))
    ]

pub whole_part-whole-requires : goal.whole_part-whole-requires
whole_part-whole-requires c =
    let a = c.args in
    rw c.last_product.ensures
    (product_bounded a.scale a.reading a.setting c.requires (sym c.reading_in_range.ensures ∙ c.if-not-reading_in_range.false) (sym c.setting_in_range.ensures ∙ c.if-not-setting_in_range.false))

pub returns-then-whole-limit : goal.returns-then-whole-limit
returns-then-whole-limit c =
    let a = c.args in
    -- the whole part, in the definition's words
    let whole : c.whole_part-whole.result ≡ whole_part (last_product a.scale a.reading a.setting) = rw (c.whole_part-whole.ensures, c.last_product.ensures) in
    let in_range = both c.reading_in_range.ensures c.setting_in_range.ensures c.if-not-reading_in_range.false c.if-not-setting_in_range.false in
    rw whole (sym (only a.scale a.limit a.reading a.setting (fine in_range (omega (arith, whole)))))

pub returns-else-whole-limit : goal.returns-else-whole-limit
returns-else-whole-limit c =
    let a = c.args in
    let whole : c.whole_part-whole.result ≡ whole_part (last_product a.scale a.reading a.setting) = rw (c.whole_part-whole.ensures, c.last_product.ensures) in
    let in_range = both c.reading_in_range.ensures c.setting_in_range.ensures c.if-not-reading_in_range.false c.if-not-setting_in_range.false in
    sym (only a.scale a.limit a.reading a.setting (too_large in_range (omega (arith, whole))))
