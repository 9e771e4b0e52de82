-- What is computed, step by step, from the definitions: inputs that are nearly headers, headers at their limits, and every answer's number and value. An
-- error in a definition breaks these first. The proofs: `proofs/Computed.antt`. Assumes nothing.
use Rattle.std.specs.Prelude.{ℕ, ◌≡◌, [], ◌∷◌, Ok, Err}
use Rattle.checks.specs.Numbers.{answer, done}
use Rattle.usb.specs.declared.decoder.DecodeError.TheVariants.{RxFailure}
use Rattle.usb.specs.declared.head.HeaderError.TheVariants.{BadPacket}
use Rattle.usb.specs.Decode.{decode_answer, decoded_answer}
use Rattle.usb.specs.Header.{headed_answer, header_answer, header_of}
use Rattle.usb.specs.Numbers.{bad_packet, rx_failure}

-- each check by itself, in document 01's order
abbrev pub NearMisses : Type 0
NearMisses = (decode_answer (0x1a ∷ 0xb4 ∷ 0x00 ∷ []) ≡ answer rx_failure [])
    × (decode_answer (0x1b ∷ 0xb4 ∷ 0x00 ∷ 0x04 ∷ []) ≡ answer rx_failure [])
    × (decode_answer (0x1a ∷ 0xb5 ∷ 0x00 ∷ 0x04 ∷ []) ≡ answer rx_failure [])
    × (decode_answer (0x1a ∷ 0xb4 ∷ 0x00 ∷ 0x03 ∷ []) ≡ answer rx_failure [])
    × (decode_answer (0x1a ∷ 0xb4 ∷ 0x00 ∷ 0x05 ∷ []) ≡ answer rx_failure [])

-- a header, and its limits
abbrev pub HeadersMade : Type 0
HeadersMade = (header_of 251 ≡ 0x1a ∷ 0xb4 ∷ 0x00 ∷ 0xff ∷ []) × (header_answer 251 4 ≡ answer done [])
    × (header_answer 252 4 ≡ answer bad_packet []) × (header_answer 0 5 ≡ answer bad_packet [])

-- what header answers, in document 01's numbers: a conversion to `u32` that tells a refused header by decode's 7 breaks its contract
abbrev pub HeadedTold : Type 0
HeadedTold = (headed_answer (Ok tt) ≡ answer 0 []) × (headed_answer (Err BadPacket) ≡ answer 6 [])

-- and decode, with the packet's length
abbrev pub DecodedTold : Type 0
DecodedTold = ((n : ℕ) → decoded_answer (Ok n) ≡ answer 0 (n ∷ [])) × (decoded_answer (Err RxFailure) ≡ answer 7 [])
