-- `windows::Window::class` meets its contract: its tests are the definition's, multiplied out. Assumes nothing.
use Prim.Native.Nat.{◌*◌, ◌<◌}
use mathlib.Core.Path.{refl}
use native.Mathlib.Omega.{arith}
use borrow.Author.Tests.{lt-ltb}
use Rattle.windows.specs.Figure.{urban_below, class_of}
use Rattle.windows.proofs.Exact.{mean_below}
use Rattle.windows.proofs.window.Window.class.Goals as goal

pub returns-then-speeds-seconds : goal.returns-then-speeds-seconds
unfolding class_of
returns-then-speeds-seconds c =
    let s = c.args.self.s in
    let n = c.args.self.n in
    let slow : 10 * s < urban_below * n = omega arith in
    rw (mean_below s n urban_below, lt-ltb _ _ slow) refl
