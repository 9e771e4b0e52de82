-- A number as text: decimal, without leading zeros. Assumes nothing.
use Rattle.std.specs.Prelude.{ℕ, zero, suc, ◌/◌, ◌%◌, cond, List, [], ◌∷◌, ◌++◌, ltb}
use Rattle.io.specs.Digits.{hex_digit_ascii}

-- a number's decimal digits, the highest first and at most k of them, without leading zeros
unfoldable pub digits_of : ℕ → ℕ → List ℕ
digits_of zero n = []
digits_of (suc k) n = cond (ltb n 10) (hex_digit_ascii n ∷ []) (digits_of k (n / 10) ++ (hex_digit_ascii (n % 10) ∷ []))

-- a number of 64 bits has at most 20
abbrev pub decimal : ℕ → List ℕ
decimal n = digits_of 20 n
