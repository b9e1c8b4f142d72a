-- The answer and the buffer of a writing, refused and accepted. Assumes nothing.
use Prim.Native.Nat.{ℕ}
use mathlib.Core.Path.{◌≡◌, refl, sym, ◌∙◌, ap}
use mathlib.Core.List.{List, ◌++◌}
use native.Mathlib.Nat.{zero-add}
use native.Mathlib.Omega.{arith}
use lib.ListN.{length, drop}
use lib.Seq.{sets, sets-eq}
use borrow.Author.Tests.{ne_eqb}
use Rattle.base.specs.declared.Plan.{Plan}
use Rattle.base.specs.Refusal.{Fault, fault}
use Rattle.base.specs.InFront.{InFront}
use Rattle.base.proofs.InFront.{in_front}
use Rattle.second.specs.Lanes.{Lanes}
use Rattle.writer.specs.Writing.{stream_of, write_fault, write_of, buffer_after}
use Rattle.writer.specs.Outcomes.{none}
use Rattle.writer.proofs.Refused.{accepts, refused_exactly}

-- accepted, the place is 0
no_place : (plan : Plan) (trip : Lanes) (places : ℕ) → (write_fault plan trip places).number ≡ 0 → write_fault plan trip places ≡ fault 0 0
no_place plan trip places z = let a = accepts plan trip places z in (refused_exactly plan trip places (fault 0 0)).1 (none a.writable a.enough)

-- ---- the answer, by the number that the tests gave
module _ (plan : Plan) (trip : Lanes) (places : ℕ) (given : Fault) (is : given ≡ write_fault plan trip places) where
  pub refused_answer_lem : (given.number ≡ 0 → ⊥) → record { refusal = given.number; place = given.place; bytes = 0 } ≡ write_of plan trip places
  unfolding write_of
  refused_answer_lem bad = rw (sym is, ne_eqb given.number 0 bad)

  pub accepted_answer : (bytes : ℕ) → bytes ≡ length (stream_of plan trip) → given.number ≡ 0 → record { refusal = 0; place = 0; bytes = bytes } ≡ write_of plan trip places
  unfolding write_of
  accepted_answer bytes all z = rw (all, no_place plan trip places (sym (ap (λ (f : Fault). f.number) is) ∙ z))

-- ---- the buffer
module _ (plan : Plan) (trip : Lanes) (buffer : List ℕ) where
  pub refused_buffer : ((write_fault plan trip (length buffer)).number ≡ 0 → ⊥) → buffer_after plan trip buffer ≡ buffer
  unfolding buffer_after
  refused_buffer bad = rw (ne_eqb (write_fault plan trip (length buffer)).number 0 bad)

  pub accepted_buffer : (write_fault plan trip (length buffer)).number ≡ 0 → buffer_after plan trip buffer ≡ stream_of plan trip ++ drop (length (stream_of plan trip)) buffer
  unfolding buffer_after
  accepted_buffer z = rw z

  -- as the code stores it
  pub stored_buffer : (write_fault plan trip (length buffer)).number ≡ 0 → sets buffer 0 (stream_of plan trip) ≡ buffer_after plan trip buffer
  stored_buffer z =
      let stream = stream_of plan trip in
      sets-eq stream buffer 0 (omega (arith, (accepts plan trip (length buffer) z).enough)) ∙ ap (λ (n : ℕ). stream ++ drop n buffer) (zero-add (length stream)) ∙ sym (accepted_buffer z)

  -- nothing else written
  pub accepted_writes : (write_fault plan trip (length buffer)).number ≡ 0 → InFront (stream_of plan trip) (length (stream_of plan trip)) buffer (buffer_after plan trip buffer)
  accepted_writes z = rw (accepted_buffer z) (in_front (stream_of plan trip) buffer (length (stream_of plan trip)) refl (accepts plan trip (length buffer) z).enough)
