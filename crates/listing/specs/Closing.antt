-- The closing line, `end: bytes N packets M`, and all that is written for an input (document 01, 'Program'). Assumes nothing.
use Rattle.std.specs.Prelude.{ℕ, List, [], ◌∷◌, ◌++◌, length}
use Rattle.serial.specs.Receiver.{fresh_of}
use Rattle.serial.specs.Run.{heard}
use Rattle.text.specs.Decimal.{decimal}
use Rattle.text.specs.Hex.{line_feed}
use Rattle.listing.specs.Text.{lines_of}

-- `end: bytes `
abbrev pub end_bytes : List ℕ
end_bytes = 0x65 ∷ 0x6e ∷ 0x64 ∷ 0x3a ∷ 0x20 ∷ 0x62 ∷ 0x79 ∷ 0x74 ∷ 0x65 ∷ 0x73 ∷ 0x20 ∷ []

-- ` packets `
abbrev pub packets_word : List ℕ
packets_word = 0x20 ∷ 0x70 ∷ 0x61 ∷ 0x63 ∷ 0x6b ∷ 0x65 ∷ 0x74 ∷ 0x73 ∷ 0x20 ∷ []

-- the line
abbrev pub closing_line : ℕ → ℕ → List ℕ
closing_line bytes packets = end_bytes ++ (decimal bytes ++ (packets_word ++ (decimal packets ++ (line_feed ∷ []))))

-- for a whole input: each packet's line, and then the closing line
abbrev pub output_for : List ℕ → List ℕ
output_for input = lines_of (heard fresh_of input) ++ closing_line (length input) (length (heard fresh_of input))
