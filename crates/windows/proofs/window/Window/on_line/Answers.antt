-- `windows::Window::on_line` meets its contract: no product passes its bound, and the three numbers are the line multiplied out. Assumes nothing.
use native.Mathlib.Nat.{mul-pos}
use native.Mathlib.Omega.{arith}
use Rattle.base.proofs.Fractions.{is_written}
use Rattle.windows.specs.Inside.{held_as}
use Rattle.windows.proofs.Exact.{mean_is, line_is, bounds}
use Rattle.windows.proofs.window.Window.on_line.Goals as goal

pub invariant_of-result : goal.invariant_of-result
invariant_of-result c =
    record { above_most = omega (arith, bounds c.requires.0 c.args.self.few c.requires.1); over_least = mul-pos c.requires.0.w_least c.args.self.lasts }

pub returns : goal.returns
unfolding held_as
returns c =
    let a = c.args in
    is_written (line_is a.e a.f a.a a.w (mean_is a.self.s a.self.n))
