-- The bytes of words and of numbers.
use Rattle.std.specs.Prelude.{ℕ, zero, suc, ◌/◌, ◌%◌, List, [], ◌∷◌, ◌++◌, ltb, get_or}
use Prim.Native.Char.{code}
use Prim.Native.String.{String, [] as nothing, ◌∷◌ as ◌before◌}
use Rattle.base.specs.Words.{pick}

-- the bytes of a text, one for each letter; "\n" is the line end, byte 10
abbrev pub bytes : String → List ℕ
bytes nothing = []
bytes (letter before rest) = code letter ∷ bytes rest

-- the digit of a number below 16
unfoldable pub digit : ℕ → ℕ
digit d = get_or (bytes "0123456789abcdef") d 0

-- a number's decimal digits without leading zeros, of which at most k stand behind the first
unfoldable pub decimal_up_to : ℕ → ℕ → List ℕ
decimal_up_to zero n = digit n ∷ []
decimal_up_to (suc k) n = pick (ltb n 10) (digit n ∷ []) (decimal_up_to k (n / 10) ++ (digit (n % 10) ∷ []))

-- a number in decimal: no number n has more than n digits behind the first
unfoldable pub decimal : ℕ → List ℕ
decimal n = decimal_up_to n n

-- "four lower-case hex digits"
unfoldable pub hex : ℕ → List ℕ
hex n = digit (n / 4_096 % 16) ∷ digit (n / 256 % 16) ∷ digit (n / 16 % 16) ∷ digit (n % 16) ∷ []
