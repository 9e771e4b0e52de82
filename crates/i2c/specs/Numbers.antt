-- The numbers of document 01's table 'Numbers given back' that this crate alone gives. Assumes nothing.
use Rattle.std.specs.Prelude.{ℕ}

-- I2C payload over 254, or output shorter than 4 + payload, with PEC than 5 + payload
abbrev pub bad_argument : ℕ
bad_argument = 3

-- I2C encode: own or destination address over 127
abbrev pub bad_address : ℕ
bad_address = 4

-- I2C decode fails any check
abbrev pub invalid_input : ℕ
invalid_input = 5
