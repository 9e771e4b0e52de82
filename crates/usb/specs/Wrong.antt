-- Wrong decoders. Of each, an input is named at which it does not give what the definitions that the contract cites give there, so the contract refuses it.
-- The proofs: `proofs/Wrong.antt`. Assumes nothing.
use Rattle.std.specs.Prelude.{[], ◌∷◌, ◌≢◌}
use Rattle.checks.specs.Numbers.{answer, done}
use Rattle.checks.specs.Part.{part}
use Rattle.usb.specs.Decode.{decode_answer, remainder_part}
use Rattle.usb.specs.Numbers.{rx_failure}

-- a length byte over the input's length is taken, and one under it is refused
abbrev pub ShortTakenFails : Type 0
ShortTakenFails = (decode_answer (0x1a ∷ 0xb4 ∷ 0x00 ∷ 0x05 ∷ []) ≢ answer done (1 ∷ []))
    × (decode_answer (0x1a ∷ 0xb4 ∷ 0x00 ∷ 0x04 ∷ 0x07 ∷ []) ≢ answer rx_failure [])

-- the whole input is the remainder of one that is refused
abbrev pub RestOfRefusalFails : Type 0
RestOfRefusalFails = remainder_part (0x1a ∷ 0xb4 ∷ 0x00 ∷ []) ≢ part 0 3
