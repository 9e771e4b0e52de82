-- Text read back: the bytes of a hex text, and the number of a decimal one. Assumes nothing.
use Rattle.std.specs.Prelude.{ℕ, ◌+◌, ◌-◌, ◌*◌, ◌/◌, ◌%◌, ◌^◌, Bool, true, false, cond, not, ◌&&◌, List, [], ◌∷◌, Option, Some, None, eqb, leb, ltb, length}
use Rattle.checks.specs.Output.{at_start}

-- ---- digits

-- the value of a digit, `0` to `9` and `a` to `f` in ASCII; 16 for a byte that is none
unfoldable pub digit_value : ℕ → ℕ
digit_value c = cond (leb 48 c && leb c 57) (c - 48) (cond (leb 97 c && leb c 102) (c - 87) 16)

-- the value of a digit below a base
abbrev pub digit_in : ℕ → ℕ → Option ℕ
digit_in base c = cond (ltb (digit_value c) base) (Some (digit_value c)) None

-- all bytes of a text are digits below a base
unfoldable pub all_digits : ℕ → List ℕ → Bool
all_digits base [] = true
all_digits base (c ∷ cs) = ltb (digit_value c) base && all_digits base cs

-- ---- hex

-- a hex text: an even number of hex digits
abbrev pub is_hex : List ℕ → Bool
is_hex text = eqb (length text % 2) 0 && all_digits 16 text

-- the byte of two digits, the high one first
abbrev pub pair_value : ℕ → ℕ → ℕ
pair_value h l = digit_value h * 16 + digit_value l

-- its bytes, one for each two digits
unfoldable pub hex_bytes : List ℕ → List ℕ
hex_bytes [] = []
hex_bytes (h ∷ []) = []
hex_bytes (h ∷ l ∷ rest) = pair_value h l ∷ hex_bytes rest

-- it can be read into an output of `room` bytes
abbrev pub hex_fits : List ℕ → ℕ → Bool
hex_fits text room = is_hex text && leb (length text / 2) room

-- what is answered: how many bytes there are, or a refusal
unfoldable pub hex_read : List ℕ → ℕ → Option ℕ
hex_read text room = cond (hex_fits text room) (Some (length text / 2)) None

-- the output after it: the bytes at its start; after a refusal it is as it was
unfoldable pub hex_output : List ℕ → List ℕ → List ℕ
hex_output text out = cond (hex_fits text (length out)) (at_start (hex_bytes text) out) out

-- ---- decimal

-- a number begins with a digit that is not 0 (in ASCII 48), or it is one digit
unfoldable pub starts_number : List ℕ → Bool
starts_number [] = false
starts_number (d ∷ []) = true
starts_number (d ∷ e ∷ rest) = not (eqb d 48)

-- the number that digits make behind those of `n`
unfoldable pub value_from : ℕ → List ℕ → ℕ
value_from n [] = n
value_from n (d ∷ ds) = value_from (n * 10 + digit_value d) ds

-- the number of a decimal text
abbrev pub decimal_value : List ℕ → ℕ
decimal_value text = value_from 0 text

-- a decimal text of a number of 64 bits
abbrev pub is_decimal : List ℕ → Bool
is_decimal text = starts_number text && all_digits 10 text && ltb (decimal_value text) (2 ^ 64)

-- what is answered: the number, or a refusal
unfoldable pub decimal_read : List ℕ → Option ℕ
decimal_read text = cond (is_decimal text) (Some (decimal_value text)) None
