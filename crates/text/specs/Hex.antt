-- Bytes as text: lower-case hex, two digits for each byte, and a line of it. Assumes nothing.
use Rattle.std.specs.Prelude.{ℕ, ◌/◌, ◌%◌, List, [], ◌∷◌, ◌++◌}
use Rattle.io.specs.Digits.{hex_digit_ascii}

-- the line feed that ends a line
abbrev pub line_feed : ℕ
line_feed = 0x0a

-- a byte's two digits, the high one first; the kit's `hex_digit_ascii` is the ASCII code of a digit, `0` to `9` and then `a` to `f`
abbrev pub hex_of : ℕ → List ℕ
hex_of b = hex_digit_ascii (b / 16) ∷ hex_digit_ascii (b % 16) ∷ []

-- the digits of all bytes
unfoldable pub hex_all : List ℕ → List ℕ
hex_all [] = []
hex_all (b ∷ bs) = hex_of b ++ hex_all bs

-- the bytes' line
abbrev pub line_of : List ℕ → List ℕ
line_of bytes = hex_all bytes ++ (line_feed ∷ [])
