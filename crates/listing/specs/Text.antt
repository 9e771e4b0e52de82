-- Packets as text: the lines of hex of each packet (document 01, 'Program'). Assumes nothing.
use Rattle.std.specs.Prelude.{ℕ, List, [], ◌∷◌, ◌++◌}
use Rattle.text.specs.Hex.{line_of}

-- the lines of packets, one behind the other
unfoldable pub lines_of : List (List ℕ) → List ℕ
lines_of [] = []
lines_of (p ∷ ps) = line_of p ++ lines_of ps
