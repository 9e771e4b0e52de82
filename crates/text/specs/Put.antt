-- A text put at a place of an output: all of it where it fits, and nothing where it does not. Assumes nothing.
use Rattle.std.specs.Prelude.{ℕ, ◌+◌, Bool, cond, List, leb, length}
use Rattle.checks.specs.Output.{put_at}

-- from the place on, the text fits into an output of `room` bytes
abbrev pub fits : ℕ → List ℕ → ℕ → Bool
fits place text room = leb (place + length text) room

-- the place behind it; where it does not fit, the output's end
unfoldable pub put_end : ℕ → List ℕ → ℕ → ℕ
put_end place text room = cond (fits place text room) (place + length text) room

-- the output after it; where it does not fit, as it was
unfoldable pub put_text : ℕ → List ℕ → List ℕ → List ℕ
put_text place text out = cond (fits place text (length out)) (put_at place text out) out
