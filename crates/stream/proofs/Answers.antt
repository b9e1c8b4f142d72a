-- The answer of the whole-stream call, step by step: at the first item, at each second, at the end. Assumes nothing.
use Prim.Native.Nat.{ℕ, ◌+◌, ◌≤◌, ◌<◌}
use mathlib.Core.Path.{◌≡◌, refl, sym, ◌∙◌, ap}
use mathlib.Core.Bool.{Bool, true, false}
use mathlib.Core.List.{List, []}
use native.Mathlib.Omega.{arith}
use lib.Dec.{eqb}
use lib.ListN.{length, get_or, drop}
use borrow.Author.Tests.{eqb-true, eqb-false}
use Rattle.base.specs.declared.Plan.{Plan}
use Rattle.item.specs.Item.{item_of, size_of}
use Rattle.item.proofs.Views.{plan_in}
use Rattle.stream.specs.declared.ReadAnswer.{ReadAnswer}
use Rattle.stream.specs.Items.{items_from, number_of, Standing, at_start, through, stopped, walk}
use Rattle.stream.specs.Reading.{refused_at, answer_of, read_of}
use Rattle.stream.proofs.Walking.{here, with_plan, items_none, items_here, walk_bad, second_walk, plan_walk}

-- the answer of a reading that has come to an offset, with the plan and n seconds read
abbrev pub answer_from : ℕ → Plan → ℕ → List ℕ → ℕ → ReadAnswer
answer_from room plan n bytes at = answer_of (walk room (with_plan plan n) (items_from at 0 (drop at bytes)))

answer_stopped : (s : Standing) (number place : ℕ) → answer_of (stopped s number place) ≡ refused_at number place
unfolding answer_of
answer_stopped s number place = refl

answer_through : (plan : Plan) (n : ℕ) → answer_of (through (with_plan plan n)) ≡ record { refusal = 0; place = 0; plan = plan; seconds = n }
unfolding answer_of
answer_through plan n = refl

walk_none : (room : ℕ) (s : Standing) → walk room s [] ≡ through s
unfolding walk
walk_none room s = refl

-- a bad item at an offset
stops : (room : ℕ) (s : Standing) (bytes : List ℕ) (at : ℕ) → at < length bytes → (number_of room s.planned s.seconds (item_of (drop at bytes)) ≡ 0 → ⊥) → answer_of (walk room s (items_from at 0 (drop at bytes))) ≡ refused_at (number_of room s.planned s.seconds (item_of (drop at bytes))) at
stops room s bytes at inside bad =
    rw (items_here bytes at inside, walk_bad room s (here bytes at) _ bad) (answer_stopped s (number_of room s.planned s.seconds (item_of (drop at bytes))) at)

-- ---- the first item
module _ (room : ℕ) (bytes : List ℕ) where
  pub empty_stream : length bytes ≡ 0 → read_of room bytes ≡ refused_at 11 0
  unfolding read_of answer_of
  empty_stream none = rw (items_none bytes 0 (omega arith), walk_none room at_start)

  pub first_bad_lem : 0 < length bytes → (number_of room false 0 (item_of bytes) ≡ 0 → ⊥) → read_of room bytes ≡ refused_at (number_of room false 0 (item_of bytes)) 0
  unfolding read_of
  first_bad_lem some bad = stops room at_start bytes 0 some bad

  pub after_first : number_of room false 0 (item_of bytes) ≡ 0 → read_of room bytes ≡ answer_from room (plan_in bytes) 0 bytes 21
  unfolding read_of
  after_first good = ap answer_of (plan_walk room bytes good)

-- ---- the seconds
module _ (room : ℕ) (plan : Plan) (n : ℕ) (bytes : List ℕ) (at : ℕ) where
  pub bad_second : at < length bytes → (number_of room true n (item_of (drop at bytes)) ≡ 0 → ⊥) → answer_from room plan n bytes at ≡ refused_at (number_of room true n (item_of (drop at bytes))) at
  bad_second inside bad = stops room (with_plan plan n) bytes at inside bad

  pub next_answer : number_of room true n (item_of (drop at bytes)) ≡ 0 → answer_from room plan n bytes at ≡ answer_from room plan (n + 1) bytes (at + size_of (get_or bytes at 0))
  next_answer good = ap answer_of (second_walk room plan n bytes at good)

  pub at_end : length bytes ≤ at → answer_from room plan n bytes at ≡ record { refusal = 0; place = 0; plan = plan; seconds = n }
  at_end end = rw (items_none bytes at end, walk_none room (with_plan plan n)) (answer_through plan n)

-- ---- an accepted reading
module _ (room : ℕ) (bytes : List ℕ) where
  pub accepted_first : (read_of room bytes).refusal ≡ 0 → number_of room false 0 (item_of bytes) ≡ 0
  accepted_first z = go (eqb (length bytes) 0) refl (eqb (number_of room false 0 (item_of bytes)) 0) refl
    where
      go : (e : Bool) → eqb (length bytes) 0 ≡ e → (g : Bool) → eqb (number_of room false 0 (item_of bytes)) 0 ≡ g → number_of room false 0 (item_of bytes) ≡ 0
      go true e g _ = absurd (eqb-false 11 0 refl (sym (ap (λ (r : ReadAnswer). r.refusal) (empty_stream room bytes (eqb-true (length bytes) 0 e))) ∙ z))
      go false e true g = eqb-true (number_of room false 0 (item_of bytes)) 0 g
      go false e false g =
          let bad = eqb-false (number_of room false 0 (item_of bytes)) 0 g in
          absurd (bad (sym (ap (λ (r : ReadAnswer). r.refusal) (first_bad_lem room bytes (omega (arith, eqb-false (length bytes) 0 e)) bad)) ∙ z))

module _ (room : ℕ) (plan : Plan) (n : ℕ) (bytes : List ℕ) (at : ℕ) (z : (answer_from room plan n bytes at).refusal ≡ 0) where
  pub accepted_second : at < length bytes → number_of room true n (item_of (drop at bytes)) ≡ 0
  accepted_second inside = go (eqb (number_of room true n (item_of (drop at bytes))) 0) refl
    where
      go : (g : Bool) → eqb (number_of room true n (item_of (drop at bytes))) 0 ≡ g → number_of room true n (item_of (drop at bytes)) ≡ 0
      go true g = eqb-true (number_of room true n (item_of (drop at bytes))) 0 g
      go false g =
          let bad = eqb-false (number_of room true n (item_of (drop at bytes))) 0 g in
          absurd (bad (sym (ap (λ (r : ReadAnswer). r.refusal) (bad_second room plan n bytes at inside bad)) ∙ z))

  pub still_accepted : number_of room true n (item_of (drop at bytes)) ≡ 0 → (answer_from room plan (n + 1) bytes (at + size_of (get_or bytes at 0))).refusal ≡ 0
  still_accepted good = sym (ap (λ (r : ReadAnswer). r.refusal) (next_answer room plan n bytes at good)) ∙ z
