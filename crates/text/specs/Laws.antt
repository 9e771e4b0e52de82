-- What is proved of the texts: what was written is read back, nothing else is read, and a text tells what it was made of (`proofs/HexBack.antt`,
-- `proofs/DecimalBack.antt`). Assumes nothing.
use Rattle.std.specs.Prelude.{ℕ, ◌^◌, ◌≤◌, ◌<◌, ◌≡◌, true, List, ◌++◌, Some, length}
use Rattle.checks.specs.Laws.{Bytes}
use Rattle.checks.specs.Output.{at_start}
use Rattle.text.specs.Decimal.{decimal}
use Rattle.text.specs.Hex.{hex_all, line_of}
use Rattle.text.specs.Read.{decimal_read, decimal_value, hex_bytes, hex_output, hex_read, is_decimal, is_hex}

-- the hex of bytes reads as these bytes, into any output that has their room
abbrev pub HexReadBack : Type 0
HexReadBack = (bytes out : List ℕ) → Bytes bytes → length bytes ≤ length out
    → (hex_read (hex_all bytes) (length out) ≡ Some (length bytes)) × (hex_output (hex_all bytes) out ≡ at_start bytes out)

-- and a text that is read is the hex of its bytes
abbrev pub OnlyHex : Type 0
OnlyHex = (text : List ℕ) → is_hex text ≡ true → hex_all (hex_bytes text) ≡ text

-- the decimal of a number of 64 bits reads as this number
abbrev pub DecimalReadBack : Type 0
DecimalReadBack = (n : ℕ) → n < 2 ^ 64 → decimal_read (decimal n) ≡ Some n

-- and a text that is read is the decimal of its number
abbrev pub OnlyDecimal : Type 0
OnlyDecimal = (text : List ℕ) → is_decimal text ≡ true → decimal (decimal_value text) ≡ text

-- the hex text tells the bytes
abbrev pub HexTells : Type 0
HexTells = (bs cs : List ℕ) → Bytes bs → Bytes cs → hex_all bs ≡ hex_all cs → bs ≡ cs

-- a line tells its bytes, and the text behind it
abbrev pub LineTells : Type 0
LineTells = (bs cs rest more : List ℕ) → Bytes bs → Bytes cs → line_of bs ++ rest ≡ line_of cs ++ more → (bs ≡ cs) × (rest ≡ more)
