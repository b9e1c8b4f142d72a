-- The refusals of the sweep, case by case in their order, and what an accepted call may take for granted. Assumes nothing.
use Prim.Native.Nat.{ℕ, ◌+◌, ◌*◌, ◌≤◌, ◌<◌}
use mathlib.Core.Path.{◌≡◌, refl, sym, ◌∙◌, ap}
use mathlib.Core.Bool.{Bool, true, false, not, ◌&&◌, and-false, and-eq-true_iff}
use mathlib.Core.List.{List}
use native.Mathlib.Nat.{le_refl}
use native.Mathlib.Omega.{arith}
use lib.Dec.{leb, ltb}
use lib.ListN.{length, get_or}
use borrow.Author.Tests.{lt-ltb, le-ltb, le-leb, lt-leb, leb-true, ltb-true, ltb-false, eqb-false, eq-eqb, ne_eqb}
use Rattle.base.specs.Limits.{trip_limit, co2_most, reference_most}
use Rattle.base.specs.Plan.{reference_in_range}
use Rattle.base.specs.Second.{too_many, co2_in_range}
use Rattle.base.specs.declared.refusal.Refused.{Refused}
use Rattle.base.specs.Refusal.{Fault, number_of, fault_of, fault, accepted, plan_out_of_range, too_many_values, lane_too_short, out_of_range, state_not_reached}
use Rattle.base.specs.Words.{pick, first_bad}
use Rattle.base.proofs.FirstBad.{IsFirstBad, first_bad_lem}
use Rattle.base.proofs.Products.{product_at_most}
use Rattle.base.proofs.Sums.{sum_bound}
use Rattle.base.proofs.Numbers.{not_accepted}
use Rattle.sweep.specs.declared.SweepState.{SweepState}
use Rattle.sweep.specs.Sweep.{beginning, ends_after, is_reached, first_out_of_range, place_of, sweep_refusal, run_answer, refused_answer, sweep_answer, sweep_ends}
use Rattle.sweep.specs.Outcomes.{Accepted, Outcome, bad_reference, if_too_many, if_too_short, bad_mass, never_reached, fine}
use Rattle.sweep.specs.Inside.{Measured, Ready, refused_with}
use Rattle.sweep.proofs.Reached.{reached_stands}

-- the first bad index is not passed by i + 1 exactly where it is not passed by i and i is good
pub fine_so_far : (good : ℕ → Bool) (n i : ℕ) → i < n → leb i (first_bad good n) && good i ≡ leb (i + 1) (first_bad good n)
fine_so_far good n i h = go (ltb i (first_bad good n)) refl
  where
    first : IsFirstBad good n (first_bad good n)
    first = first_bad_lem good n

    at : (t : Bool) → ltb (first_bad good n) i ≡ t → first_bad good n ≤ i → leb i (first_bad good n) && good i ≡ leb (i + 1) (first_bad good n)
    at true p k = rw (lt-leb i (first_bad good n) (ltb-true (first_bad good n) i p), lt-leb (i + 1) (first_bad good n) (omega arith))
    at false p k =
        let e : first_bad good n ≡ i = omega (arith, ltb-false (first_bad good n) i p) in
        let bad : good i ≡ false = rw e at (first.there (omega arith)) in
        rw (bad, and-false (leb i (first_bad good n)), lt-leb (i + 1) (first_bad good n) (omega arith))

    go : (t : Bool) → ltb i (first_bad good n) ≡ t → leb i (first_bad good n) && good i ≡ leb (i + 1) (first_bad good n)
    go true p =
        let l : i < first_bad good n = ltb-true i (first_bad good n) p in
        rw (first.before i l, le-leb i (first_bad good n) (omega arith), le-leb (i + 1) (first_bad good n) (omega arith))
    go false p = at (ltb (first_bad good n) i) refl (ltb-false i (first_bad good n) p)

-- where no mass is the first out of range, each is in range
pub masses_in_range : (co2 : List ℕ) → length co2 ≤ first_out_of_range co2 → (i : ℕ) → i < length co2 → get_or co2 i 0 ≤ co2_most
masses_in_range co2 h i l =
    leb-true (get_or co2 i 0) co2_most ((first_bad_lem (λ k. co2_in_range (get_or co2 k 0)) (length co2)).before i (omega arith))

-- and so many of them fit
pub measured : (co2 : List ℕ) → length co2 ≤ trip_limit → length co2 ≤ first_out_of_range co2 → Measured co2
measured co2 few h =
    let most = sum_bound co2_most co2 (masses_in_range co2 h) in
    let all : length co2 * co2_most ≤ trip_limit * co2_most = product_at_most (trip_limit * co2_most) few (le_refl co2_most) tt in
    record { few = omega arith; light = omega arith }

module _ (reference : ℕ) (co2 : List ℕ) (room : ℕ) (s : SweepState) where
  pub outcome : Outcome reference co2 room s (sweep_refusal reference co2 room s)
  unfolding sweep_refusal
  outcome =
      go (reference_in_range reference) refl (too_many (length co2)) refl (ltb room (length co2)) refl (ltb (first_out_of_range co2) (length co2)) refl (is_reached reference co2 s) refl
    where
      go :
          (a : Bool) → reference_in_range reference ≡ a →
          (b : Bool) → too_many (length co2) ≡ b →
          (d : Bool) → ltb room (length co2) ≡ d →
          (e : Bool) → ltb (first_out_of_range co2) (length co2) ≡ e →
          (f : Bool) → is_reached reference co2 s ≡ f →
          Outcome reference co2 room s (pick (not a) plan_out_of_range (pick b too_many_values (pick d lane_too_short (pick e out_of_range (pick (not f) state_not_reached accepted)))))
      go false p b q d r e t f u = bad_reference p
      go true p true q d r e t f u = if_too_many p (ltb-true trip_limit (length co2) q)
      go true p false q true r e t f u = if_too_short p (ltb-false trip_limit (length co2) q) (ltb-true room (length co2) r)
      go true p false q false r true t f u =
          bad_mass p (ltb-false trip_limit (length co2) q) (ltb-false room (length co2) r) (ltb-true (first_out_of_range co2) (length co2) t)
      go true p false q false r false t false u =
          never_reached p (ltb-false trip_limit (length co2) q) (ltb-false room (length co2) r) (ltb-false (first_out_of_range co2) (length co2) t) u
      go true p false q false r false t true u =
          fine (record { reference_is_in_range = p; few = ltb-false trip_limit (length co2) q; places = ltb-false room (length co2) r; in_range = ltb-false (first_out_of_range co2) (length co2) t; reached = u })

  pub gives : {refusal : ℕ} → Outcome reference co2 room s refusal → sweep_refusal reference co2 room s ≡ refusal
  unfolding sweep_refusal
  gives (bad_reference p) = rw p
  gives (if_too_many p q) = rw (p, lt-ltb trip_limit (length co2) q)
  gives (if_too_short p q r) = rw (p, le-ltb trip_limit (length co2) q, lt-ltb room (length co2) r)
  gives (bad_mass p q r t) =
      rw (p, le-ltb trip_limit (length co2) q, le-ltb room (length co2) r, lt-ltb (first_out_of_range co2) (length co2) t)
  gives (never_reached p q r t u) =
      rw (p, le-ltb trip_limit (length co2) q, le-ltb room (length co2) r, le-ltb (first_out_of_range co2) (length co2) t, u)
  gives (fine ok) =
      rw (ok.reference_is_in_range, le-ltb trip_limit (length co2) ok.few, le-ltb room (length co2) ok.places, le-ltb (first_out_of_range co2) (length co2) ok.in_range, ok.reached)

  -- and with its number its place
  pub faulted : {refusal : ℕ} → Outcome reference co2 room s refusal → fault (sweep_refusal reference co2 room s) (place_of co2 (sweep_refusal reference co2 room s)) ≡ fault refusal (place_of co2 refusal)
  faulted what = ap (λ (refusal : ℕ). fault refusal (place_of co2 refusal)) (gives what)

  -- a call with number 0 passed every test
  pub passed : sweep_refusal reference co2 room s ≡ accepted → Accepted reference co2 room s
  passed zero_number = go (sweep_refusal reference co2 room s) outcome zero_number
    where
      go : (refusal : ℕ) → Outcome reference co2 room s refusal → refusal ≡ accepted → Accepted reference co2 room s
      go _ (bad_reference p) e = absurd (eqb-false plan_out_of_range accepted refl e)
      go _ (if_too_many p q) e = absurd (eqb-false too_many_values accepted refl e)
      go _ (if_too_short p q r) e = absurd (eqb-false lane_too_short accepted refl e)
      go _ (bad_mass p q r t) e = absurd (eqb-false out_of_range accepted refl e)
      go _ (never_reached p q r t u) e = absurd (eqb-false state_not_reached accepted refl e)
      go _ (fine ok) e = ok

  -- and is ready to run
  pub ready : Accepted reference co2 room s → Ready reference co2 room s
  ready ok =
      let range = (and-eq-true_iff (leb 1 reference) (leb reference reference_most)).0 ok.reference_is_in_range in
      let positive = leb-true 1 reference range.0 in
      record { positive = positive; masses = measured co2 ok.few ok.in_range; stands = reached_stands reference co2 positive s ok.reached; places = ok.places }

  -- a refusal answers its number and place and zeros, and leaves the ends
  pub refused_answer_lem : (budget : ℕ) → (sweep_refusal reference co2 room s ≡ accepted → ⊥) → sweep_answer reference co2 room s budget ≡ refused_answer co2 (sweep_refusal reference co2 room s)
  unfolding sweep_answer
  refused_answer_lem budget h = rw (ne_eqb (sweep_refusal reference co2 room s) accepted h)

  -- an accepted call answers its run
  pub accepted_answer : (budget : ℕ) → sweep_refusal reference co2 room s ≡ accepted → sweep_answer reference co2 room s budget ≡ run_answer reference co2 s budget
  unfolding sweep_answer
  accepted_answer budget h = rw (eq-eqb (sweep_refusal reference co2 room s) accepted h)

module _ (reference : ℕ) (co2 : List ℕ) (ends : List ℕ) (s : SweepState) where
  pub refused_ends : (budget : ℕ) → (sweep_refusal reference co2 (length ends) s ≡ accepted → ⊥) → sweep_ends reference co2 ends s budget ≡ ends
  unfolding sweep_ends
  refused_ends budget h = rw (ne_eqb (sweep_refusal reference co2 (length ends) s) accepted h)

  pub accepted_ends : (budget : ℕ) → sweep_refusal reference co2 (length ends) s ≡ accepted → sweep_ends reference co2 ends s budget ≡ ends_after reference co2 budget s ends
  unfolding sweep_ends
  accepted_ends budget h = rw (eq-eqb (sweep_refusal reference co2 (length ends) s) accepted h)

-- what the code answers where it refuses a call is what the call answers, and its lane is as it was
pub refused_is : (reference : ℕ) (co2 ends : List ℕ) (s : SweepState) (budget : ℕ) (refused : Refused) → fault_of refused ≡ fault (sweep_refusal reference co2 (length ends) s) (place_of co2 (sweep_refusal reference co2 (length ends) s)) → (refused_with refused ≡ sweep_answer reference co2 (length ends) s budget) × (ends ≡ sweep_ends reference co2 ends s budget)
refused_is reference co2 ends s budget refused e =
    let refusal = sweep_refusal reference co2 (length ends) s in
    let number : number_of refused.refusal ≡ sweep_refusal reference co2 (length ends) s = ap (λ (f : Fault). f.number) e in
    let bad : sweep_refusal reference co2 (length ends) s ≡ accepted → ⊥ = λ z. eqb-false _ _ (not_accepted refused.refusal) (number ∙ z) in
    let answer : refused_with refused ≡ refused_answer co2 refusal = ap (λ (f : Fault). record { refusal = f.number; place = f.place; state = beginning; moves = 0; over = false }) e in
    (answer ∙ sym (refused_answer_lem reference co2 (length ends) s budget bad), sym (refused_ends reference co2 ends s budget bad))
