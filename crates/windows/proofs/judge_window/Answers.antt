-- `windows::judge_window` meets its contract: it judges the sums of the window's seconds. Assumes nothing.
use Rattle.windows.proofs.judge_window.Goals as goal

pub returns : goal.returns
returns c =
    rw (c.judge.ensures, c.total.ensures, c.total_speed.ensures)
