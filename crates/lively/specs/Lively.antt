-- Too lively and too dull (Appendix 7a). "With S, N the bin's sums of speeds and seconds, and T the sum of P"; Q is its percentile.
use Rattle.std.specs.Prelude.{ℕ, ◌+◌, ◌*◌, Bool, leb, ltb}
use Rattle.base.specs.Words.{pick}

-- "too lively: if S ≤ 7,460N, 5QN > 176,256S + 1,871,424,000N; else 25QN > 480,816S + 12,289,968,000N"
unfoldable pub too_lively : ℕ → ℕ → ℕ → Bool
too_lively s n q =
    pick (leb s (7_460 * n))
    (ltb (176_256 * s + 1_871_424_000 * n) (5 * q * n))
    (ltb (480_816 * s + 12_289_968_000 * n) (25 * q * n))

-- "3,125TN + 36S² < 394,875SN"
abbrev pub below_curve : ℕ → ℕ → ℕ → Bool
below_curve s n t = ltb (3_125 * t * n + 36 * (s * s)) (394_875 * s * n)

-- "too dull: if S ≤ 9,405N, 3,125TN + 36S² < 394,875SN; else T < 18S"
unfoldable pub too_dull : ℕ → ℕ → ℕ → Bool
too_dull s n t = pick (leb s (9_405 * n)) (below_curve s n t) (ltb t (18 * s))
