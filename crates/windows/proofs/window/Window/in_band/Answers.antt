-- `windows::Window::in_band` meets its contract: a curve that is not above 0 has nothing inside, else both comparisons are of the products (`proofs/Band.antt`). Assumes nothing.
use Prim.Native.Nat.{ℕ, ◌+◌, ◌-◌, ◌*◌, ◌^◌, ◌≤◌}
use mathlib.Core.Path.{◌≡◌, refl, sym, ◌∙◌}
use mathlib.Core.Bool.{true, false}
use native.Mathlib.Omega.{arith}
use lib.Dec.{ltb}
use Rattle.base.proofs.Products.{product_at_most}
use Rattle.wide.specs.Inside.{value}
use Rattle.windows.proofs.Band.{held, band_not_above, band_above}
use Rattle.windows.proofs.window.Window.in_band.Goals as goal

-- a part or a multiple of the curve fits a word
fits : (k under above : ℕ) → above ≤ 2 ^ 54 → k ≤ 355 → k * (above - under) ≤ 355 * 2 ^ 54
fits k under above most h =
    let less : above - under ≤ 2 ^ 54 = omega arith in
    product_at_most (355 * 2 ^ 54) h less tt

pub returns-then-curve : goal.returns-then-curve
returns-then-curve c =
    let a = c.args in
    sym (band_not_above (held a.curve) a.self.s a.self.m a.lower a.upper (omega arith) (omega arith) a.curve.over_least)

pub overflow_mul-lower : goal.overflow_mul-lower
overflow_mul-lower c =
    omega (arith, fits (100 - c.args.lower) c.args.curve.under c.args.curve.above c.args.curve.above_most (omega arith))

pub returns-then-less : goal.returns-then-less
returns-then-less c =
    let figure : value c.product-figure.result ≡ 36_000_000 * c.args.self.m * c.args.curve.over = c.product-figure.ensures in
    let a = c.args in
    let below : ltb (36_000_000 * a.self.m * a.curve.over) ((100 - a.lower) * (a.curve.above - a.curve.under) * a.self.s) ≡ true = rw (sym figure, sym c.product-least.ensures) (sym c.less.ensures ∙ c.if-less.true) in
    rw (band_above (held a.curve) a.self.s a.self.m a.lower a.upper (omega arith), below) refl

pub overflow_mul-upper : goal.overflow_mul-upper
overflow_mul-upper c =
    omega (arith, fits (100 + c.args.upper) c.args.curve.under c.args.curve.above c.args.curve.above_most (omega arith))

pub returns : goal.returns
returns c =
    let figure : value c.product-figure.result ≡ 36_000_000 * c.args.self.m * c.args.curve.over = c.product-figure.ensures in
    let a = c.args in
    let within : ltb (36_000_000 * a.self.m * a.curve.over) ((100 - a.lower) * (a.curve.above - a.curve.under) * a.self.s) ≡ false = rw (sym figure, sym c.product-least.ensures) (sym c.less.ensures ∙ c.if-less.false) in
    rw (band_above (held a.curve) a.self.s a.self.m a.lower a.upper (omega arith), within, c.less-2.ensures, c.product-most.ensures, figure) refl
