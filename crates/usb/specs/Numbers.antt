-- The numbers of document 01's table 'Numbers given back' that the USB wire alone gives: this crate, and above it `transfer`. Assumes nothing.
use Rattle.std.specs.Prelude.{ℕ}

-- USB packet over 251 bytes, or lent header not 4 bytes
abbrev pub bad_packet : ℕ
bad_packet = 6

-- USB decode fails any check, or a walker's place lies beyond its transfer
abbrev pub rx_failure : ℕ
rx_failure = 7

-- builder: used count over the buffer's length or over 512, or fewer than packet + 4 bytes left below the smaller of the two
abbrev pub no_room : ℕ
no_room = 8
