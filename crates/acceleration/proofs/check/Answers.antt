-- `acceleration::check` meets its contract: its tests are those of the definition, in the same order. Assumes nothing.
use mathlib.Core.Path.{◌≡◌, sym, ◌∙◌, refl}
use mathlib.Core.Bool.{true, false, ◌||◌}
use lib.Dec.{leb, ltb}
use borrow.Author.Tests.{lt-ltb, le-ltb}
use native.Mathlib.Omega.{arith}
use Rattle.second.specs.Lanes.{Lanes, lanes_agree, seconds_in, none_has_values, first_bad_second, lanes_in}
use Rattle.second.proofs.Lanes.{agree}
use Rattle.acceleration.specs.D.{fault_of}
use Rattle.acceleration.proofs.check.Goals as goal

-- no second is bad
all_good : (trip : Lanes) → seconds_in trip ≡ first_bad_second trip → ltb (first_bad_second trip) (seconds_in trip) ≡ false
all_good trip e = le-ltb (first_bad_second trip) (seconds_in trip) (omega arith)

pub returns-then-not-agree : goal.returns-then-not-agree
unfolding fault_of
returns-then-not-agree c =
    let differ : lanes_agree (lanes_in c.args.trip.now) ≡ false = sym c.agree.ensures ∙ c.if-not-agree.true in
    c.from.ensures ∙ rw differ refl

pub returns-then-too_many : goal.returns-then-too_many
unfolding fault_of
returns-then-too_many c =
    let agrees = sym c.agree.ensures ∙ c.if-not-agree.false in
    let many = rw c.seconds-seconds.ensures at (sym c.too_many.ensures ∙ c.if-too_many.true) in
    c.from-then-too_many.ensures ∙ rw (agrees, many) refl

pub first_bad-requires : goal.first_bad-requires
first_bad-requires c = agree _ (sym c.agree.ensures ∙ c.if-not-agree.false)

pub returns-in-Some : goal.returns-in-Some
unfolding fault_of
returns-in-Some c =
    let agrees = sym c.agree.ensures ∙ c.if-not-agree.false in
    let few = rw c.seconds-seconds.ensures at (sym c.too_many.ensures ∙ c.if-too_many.false) in
    let bad = lt-ltb _ _ (rw c.in-Some.ensures.first at c.in-Some.ensures.within) in
    rw (agrees, few, bad, c.in-Some.ensures.first) refl

pub returns-then-none_has_values-seconds : goal.returns-then-none_has_values-seconds
unfolding fault_of
returns-then-none_has_values-seconds c =
    let agrees = sym c.agree.ensures ∙ c.if-not-agree.false in
    let few = rw c.seconds-seconds.ensures at (sym c.too_many.ensures ∙ c.if-too_many.false) in
    let good = all_good _ c.in_default.ensures.first in
    let none : (none_has_values c.args.trip.now.states.now || leb (seconds_in (lanes_in c.args.trip.now)) c.args.i) ≡ true = rw (c.none_has_values.ensures, c.seconds-seconds.ensures) at c.if-none_has_values-seconds.true in
    c.from-then-none_has_values-seconds.ensures ∙ rw (agrees, few, good, none) refl

pub returns : goal.returns
unfolding fault_of
returns c =
    let agrees = sym c.agree.ensures ∙ c.if-not-agree.false in
    let few = rw c.seconds-seconds.ensures at (sym c.too_many.ensures ∙ c.if-too_many.false) in
    let good = all_good _ c.in_default.ensures.first in
    let some : (none_has_values c.args.trip.now.states.now || leb (seconds_in (lanes_in c.args.trip.now)) c.args.i) ≡ false = rw (c.none_has_values.ensures, c.seconds-seconds.ensures) at c.if-none_has_values-seconds.false in
    rw (agrees, few, good, some) refl
