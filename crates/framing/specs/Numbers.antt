-- The number of document 01's table 'Numbers given back' that only the frame writer gives. Assumes nothing.
use Rattle.std.specs.Prelude.{ℕ}

-- packet out is under 5 or over 255 bytes
abbrev pub bad_length : ℕ
bad_length = 1
