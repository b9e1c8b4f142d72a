-- `sweep::Kept::is_reached` meets its contract: each early test finds a state astray, and the last two decide (`proofs/Local.antt`). Assumes nothing.
use mathlib.Core.Path.{sym, ◌∙◌}
use native.Mathlib.Omega.{arith}
use Rattle.sweep.proofs.Prefix.{first_within, part_sum}
use Rattle.sweep.proofs.Local.{two_tests, too_far, out_of_order, miscounted, misweighed}
use Rattle.sweep.proofs.Kept.is_reached.Goals as goal

pub returns-then-self-taken : goal.returns-then-self-taken
returns-then-self-taken c =
    sym (too_far _ _ c.requires.0 _ c.if-self-taken.true)

pub returns-then-taken-dropped : goal.returns-then-taken-dropped
returns-then-taken-dropped c =
    sym (out_of_order _ _ c.requires.0 _ c.if-taken-dropped.true)

pub returns-then-state-taken : goal.returns-then-state-taken
returns-then-state-taken c =
    sym (miscounted _ _ c.requires.0 _ c.if-state-taken.true)

pub total-requires : goal.total-requires
total-requires c =
    let state = c.args.state in
    omega
    (arith, part_sum state.dropped state.taken c.args.self.now.co2.now c.if-taken-dropped.false, first_within state.taken c.args.self.now.co2.now, c.requires.1.light)

pub returns-then-mass-total : goal.returns-then-mass-total
returns-then-mass-total c =
    sym (misweighed _ _ c.requires.0 c.args.state c.if-taken-dropped.false (λ e. c.if-mass-total.true (e ∙ sym c.total.ensures)))

pub returns : goal.returns
returns c =
    let state = c.args.state in
    rw (c.closed_rightly.ensures, c.needed_last.ensures)
    (two_tests _ _ c.requires.0 state
    (record {
      counted = c.if-state-taken.false;
      order = c.if-taken-dropped.false;
      within = c.if-self-taken.false;
      weighed = c.if-mass-total.false ∙ c.total.ensures;
    }))
