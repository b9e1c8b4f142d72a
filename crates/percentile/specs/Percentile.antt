-- The percentile Q of products (Appendix 7a).
use Rattle.std.specs.Prelude.{ℕ, ◌+◌, ◌-◌, ◌*◌, ◌/◌, ◌%◌, Bool, List, Result, Ok, Err, leb, ltb, eqb, ℤ, pos, nat_abs, ◌+ℤ◌, ◌-ℤ◌, ◌*ℤ◌, length, get_or}
use Rattle.base.specs.Refusal.{Fault, accepted, too_many_values, out_of_range, lane_too_short, too_few_values, fault}
use Rattle.base.specs.Second.{too_many}
use Rattle.base.specs.Words.{pick, first_bad, with_front}
use Rattle.order.specs.Sort.{sort}

-- "Ranked ascending, x(1) to x(M)"
abbrev pub x : List ℕ → ℕ → ℕ
x ranked k = get_or ranked (k - 1) 0

-- "with j and r the quotient and remainder of 95M by 100, Q = 100x(j) + r(x(j+1) - x(j)), or 100x(j) where r is 0" (it adds 0 then)
abbrev pub interpolated : List ℕ → ℤ
interpolated ranked =
    let part = 95 * length ranked in
    let j = part / 100 in
    let r = part % 100 in
    pos (100 * x ranked j) +ℤ pos r *ℤ (pos (x ranked (j + 1)) -ℤ pos (x ranked j))

-- Q as a whole number: of ranked values it is never below 0, so it is its own size
unfoldable pub q_of : List ℕ → ℕ
q_of ranked = nat_abs (interpolated ranked)

-- "percentile asked of fewer than 100 values"
abbrev pub fewest : ℕ
fewest = 100

-- "Q (zero where M is below 100)", of products in any order
unfoldable pub q_or_zero : List ℕ → ℕ
q_or_zero products = pick (ltb (length products) fewest) 0 (q_of (sort products))

-- "products in any order, each 0 to 625,000,000"
abbrev pub product_in_range : ℕ → Bool
product_in_range product = leb product 625_000_000

unfoldable pub first_bad_product : List ℕ → ℕ
first_bad_product values = first_bad (λ i. product_in_range (get_or values i 0)) (length values)

-- "Percentile: 2, 12, 6, 3": the number and the place, of values and of a lane with so many places
unfoldable pub fault_of : List ℕ → ℕ → Fault
fault_of values places =
    pick (too_many (length values)) (fault too_many_values 0)
    (pick (ltb (length values) fewest) (fault too_few_values 0)
    (pick (ltb places (length values)) (fault lane_too_short 0)
    (pick (ltb (first_bad_product values) (length values)) (fault out_of_range (first_bad_product values))
    (fault accepted 0))))

-- the answer
unfoldable pub answer_of : List ℕ → ℕ → Result ℕ Fault
answer_of values places = pick (eqb (fault_of values places).number accepted) (Ok (q_of (sort values))) (Err (fault_of values places))

-- "ranks them into a lent lane with a place for each": the lane afterwards
unfoldable pub lane_of : List ℕ → List ℕ → List ℕ
lane_of values lane = pick (eqb (fault_of values (length lane)).number accepted) (with_front (sort values) lane) lane

-- the number of refusal and the place of an answer
unfoldable pub fault_in : Result ℕ Fault → Fault
fault_in (Err given) = given
fault_in (Ok q) = fault accepted 0
