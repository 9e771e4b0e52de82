-- What is computed, step by step, from the definitions: texts written out in ASCII, put and read, and texts that are nearly hex or decimal. An error in
-- a definition breaks these first, and a function that answers anything else there breaks its contract. The proofs: `proofs/Computed.antt`. Assumes
-- nothing.
use Rattle.std.specs.Prelude.{ℕ, ◌≡◌, List, [], ◌∷◌, ◌++◌, Option, Some, None}
use Rattle.text.specs.Decimal.{decimal}
use Rattle.text.specs.Hex.{hex_all, line_of}
use Rattle.text.specs.Put.{put_end, put_text}
use Rattle.text.specs.Read.{decimal_read, hex_output, hex_read}

-- ---- written

-- bytes with each kind of digit, and their hex: `09afff`
abbrev some_bytes : List ℕ
some_bytes = 0x09 ∷ 0xaf ∷ 0xff ∷ []

abbrev some_hex : List ℕ
some_hex = 0x30 ∷ 0x39 ∷ 0x61 ∷ 0x66 ∷ 0x66 ∷ 0x66 ∷ []

-- the largest number of 64 bits: `18446744073709551615`, without its last digit
abbrev largest_front : List ℕ
largest_front =
    0x31 ∷ 0x38 ∷ 0x34 ∷ 0x34 ∷ 0x36 ∷ 0x37 ∷ 0x34 ∷ 0x34 ∷ 0x30 ∷ 0x37 ∷ 0x33 ∷ 0x37 ∷ 0x30 ∷ 0x39 ∷ 0x35 ∷ 0x35 ∷ 0x31 ∷ 0x36 ∷ 0x31 ∷ []

-- hex has two digits for each byte, the high one first and in lower case, and a line ends with a line feed and no carriage return; a zero is a digit of a
-- number, and no number has one in front
abbrev pub Written : Type 0
Written = (hex_all some_bytes ≡ some_hex) × (line_of some_bytes ≡ some_hex ++ (0x0a ∷ [])) × (decimal 0 ≡ 0x30 ∷ []) × (decimal 100 ≡ 0x31 ∷ 0x30 ∷ 0x30 ∷ [])
    × (decimal 18446744073709551615 ≡ largest_front ++ (0x35 ∷ []))

-- an output of three bytes: a text that ends at its end, one that ends before it, one that goes a byte beyond it, and no text behind its end. The place
-- behind a text is not the output's end, and where it does not fit it is not the place that was asked
abbrev pub PutThere : Type 0
PutThere = (put_end 1 (5 ∷ 6 ∷ []) 3 ≡ 3) × (put_text 1 (5 ∷ 6 ∷ []) (1 ∷ 2 ∷ 3 ∷ []) ≡ 1 ∷ 5 ∷ 6 ∷ [])
    × (put_end 0 (5 ∷ 6 ∷ []) 3 ≡ 2) × (put_text 0 (5 ∷ 6 ∷ []) (1 ∷ 2 ∷ 3 ∷ []) ≡ 5 ∷ 6 ∷ 3 ∷ [])
    × (put_end 2 (5 ∷ 6 ∷ []) 3 ≡ 3) × (put_text 2 (5 ∷ 6 ∷ []) (1 ∷ 2 ∷ 3 ∷ []) ≡ 1 ∷ 2 ∷ 3 ∷ [])
    × (put_end 4 [] 3 ≡ 3) × (put_text 4 [] (1 ∷ 2 ∷ 3 ∷ []) ≡ 1 ∷ 2 ∷ 3 ∷ [])

-- a byte's digits fill an output of two bytes, and nothing of them is put into one of one; with the line feed they fill three, and nothing is put into two.
-- So the room is not tested for one digit or for three, nor without the line feed, and no byte is left out behind a line
abbrev pub HexPut : Type 0
HexPut = (put_text 0 (hex_all (0xaf ∷ [])) (1 ∷ 2 ∷ []) ≡ 0x61 ∷ 0x66 ∷ []) × (put_text 0 (hex_all (0xaf ∷ [])) (1 ∷ []) ≡ 1 ∷ [])
    × (put_end 0 (hex_all (0xaf ∷ [])) 3 ≡ 2) × (put_text 0 (line_of (0xaf ∷ [])) (1 ∷ 2 ∷ 3 ∷ []) ≡ 0x61 ∷ 0x66 ∷ 0x0a ∷ [])
    × (put_text 0 (line_of (0xaf ∷ [])) (1 ∷ 2 ∷ []) ≡ 1 ∷ 2 ∷ []) × (put_end 0 (line_of (0xaf ∷ [])) 4 ≡ 3)

-- ---- read

abbrev bytes_read : ℕ → Option ℕ
bytes_read n = Some n

abbrev no_bytes : Option ℕ
no_bytes = None

-- a text with its room, which leaves the bytes beyond it: the first digit of a pair is the high one; and no digit at all
abbrev pub HexIn : Type 0
HexIn = (hex_read some_hex 3 ≡ bytes_read 3) × (hex_output some_hex (1 ∷ 2 ∷ 3 ∷ 4 ∷ []) ≡ 0x09 ∷ 0xaf ∷ 0xff ∷ 4 ∷ []) × (hex_read [] 0 ≡ bytes_read 0)

-- a byte of room less; an odd number of digits; `AF` in upper case; and the bytes next to the digits: `/`, `:`, a back quote and `g`
abbrev pub HexRefused : Type 0
HexRefused = (hex_read some_hex 2 ≡ no_bytes) × (hex_output some_hex (1 ∷ 2 ∷ []) ≡ 1 ∷ 2 ∷ []) × (hex_read (0x30 ∷ []) 3 ≡ no_bytes)
    × (hex_read (0x41 ∷ 0x46 ∷ []) 3 ≡ no_bytes) × (hex_output (0x30 ∷ 0x39 ∷ 0x41 ∷ 0x46 ∷ []) (1 ∷ 2 ∷ []) ≡ 1 ∷ 2 ∷ [])
    × (hex_read (0x30 ∷ 0x2f ∷ []) 3 ≡ no_bytes) × (hex_read (0x30 ∷ 0x3a ∷ []) 3 ≡ no_bytes) × (hex_read (0x60 ∷ 0x30 ∷ []) 3 ≡ no_bytes)
    × (hex_read (0x67 ∷ 0x30 ∷ []) 3 ≡ no_bytes)

abbrev number_read : ℕ → Option ℕ
number_read n = Some n

abbrev no_number : Option ℕ
no_number = None

-- `0`, `100` and the largest number
abbrev pub DecimalIn : Type 0
DecimalIn = (decimal_read (0x30 ∷ []) ≡ number_read 0) × (decimal_read (0x31 ∷ 0x30 ∷ 0x30 ∷ []) ≡ number_read 100)
    × (decimal_read (largest_front ++ (0x35 ∷ [])) ≡ number_read 18446744073709551615)

-- no digit; a zero in front, also of a zero; a number of 65 bits; `1a` and `1:`, with bytes that are no decimal digits
abbrev pub DecimalRefused : Type 0
DecimalRefused = (decimal_read [] ≡ no_number) × (decimal_read (0x30 ∷ 0x30 ∷ []) ≡ no_number) × (decimal_read (0x30 ∷ 0x37 ∷ []) ≡ no_number)
    × (decimal_read (largest_front ++ (0x36 ∷ [])) ≡ no_number) × (decimal_read (0x31 ∷ 0x61 ∷ []) ≡ no_number) × (decimal_read (0x31 ∷ 0x3a ∷ []) ≡ no_number)
