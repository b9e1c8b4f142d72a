-- `windows::Window::curve` meets its contract: it picks the line that the definition picks. Assumes nothing.
use Prim.Native.Nat.{◌*◌, ◌≤◌}
use native.Mathlib.Omega.{arith}
use borrow.Author.Tests.{le-leb}
use Rattle.windows.specs.Figure.{speed_of_e2, curve}
use Rattle.windows.proofs.Exact.{mean_at_most}
use Rattle.windows.proofs.window.Window.curve.Goals as goal

pub returns-then-self : goal.returns-then-self
unfolding curve
returns-then-self c =
    let s = c.args.self.s in
    let n = c.args.self.n in
    let slow : 10 * s ≤ speed_of_e2 * n = omega arith in
    rw (mean_at_most s n speed_of_e2, le-leb _ _ slow) c.on_line.ensures
