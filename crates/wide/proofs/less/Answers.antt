-- Where the high words differ they decide, since a low word is below 2 ^ 64; where they are equal the low words do.
use Rattle.std.proofs.Common.{ℕ, ◌+◌, ◌*◌, ◌≡◌, ◌∙◌, ◌^◌, ◌<◌, Bool, true, false, ltb, eqb, cond, Some, Less, Equal, Greater, sym, refl, arith, ltb-false, ltb-true, le-ltb, lt-ltb, eqb-true, is_lt}
use Rattle.std.proofs.lemmas.Bool.{eqb-false}
use Rattle.std.specs.Ordering.{is_some_and, partial_ordering_then, nat_cmp}
use Rattle.wide.specs.Inside.{value}
use Rattle.wide.proofs.less.Goals as goal

words_decide : (a b c d : ℕ) → b < 2 ^ 64 → d < 2 ^ 64 → is_some_and is_lt (partial_ordering_then (Some (nat_cmp a c)) (Some (nat_cmp b d))) ≡ ltb (a * 2 ^ 64 + b) (c * 2 ^ 64 + d)
words_decide a b c d hb hd = go (ltb a c) refl (eqb a c) refl (ltb b d) refl (eqb b d)
  where
    go : (t : Bool) → ltb a c ≡ t → (u : Bool) → eqb a c ≡ u → (l : Bool) → ltb b d ≡ l → (m : Bool)
        → is_some_and is_lt (partial_ordering_then (Some (cond t Less (cond u Equal Greater))) (Some (cond l Less (cond m Equal Greater)))) ≡ ltb (a * 2 ^ 64 + b) (c * 2 ^ 64 + d)
    go true p u q l r m = sym (lt-ltb _ _ (omega (arith, ltb-true a c p)))
    go false p false q l r m = sym (le-ltb _ _ (omega (arith, ltb-false a c p, eqb-false a c q)))
    go false p true q true r m = sym (lt-ltb _ _ (omega (arith, eqb-true a c q, ltb-true b d r)))
    go false p true q false r true = sym (le-ltb _ _ (omega (arith, eqb-true a c q, ltb-false b d r)))
    go false p true q false r false = sym (le-ltb _ _ (omega (arith, eqb-true a c q, ltb-false b d r)))

pub returns : goal.returns
unfolding value
returns c =
    let a = c.args.a in
    let b = c.args.b in
    c.lt.ensures ∙ words_decide a.hi a.lo b.hi b.lo (omega arith) (omega arith)
