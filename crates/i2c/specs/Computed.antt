-- What is computed, step by step, from the definitions: a frame with and without PEC, what encode answers and leaves in the output, inputs that
-- are nearly frames, and every answer's number and value. An error in a definition breaks these first. The PEC's value is that of another
-- implementation, CRC-8/SMBUS of python3-crccheck. The proofs: `proofs/Computed.antt`. Assumes nothing.
use Rattle.std.specs.Prelude.{ℕ, ◌≡◌, true, false, List, [], ◌∷◌, ◌++◌, Ok, Err, replicate}
use Rattle.checks.specs.Numbers.{answer, done}
use Rattle.checks.specs.Part.{no_part}
use Rattle.i2c.specs.declared.decoder.DecodeError.TheVariants.{InvalidInput}
use Rattle.i2c.specs.declared.encoder.EncodeError.TheVariants.{BadAddress, BadArgument}
use Rattle.i2c.specs.Decode.{decode_answer, decoded_answer, payload_part}
use Rattle.i2c.specs.Encode.{encode_answer, encode_output, encoded_answer}
use Rattle.i2c.specs.Frame.{frame}
use Rattle.i2c.specs.Laws.{Gives}
use Rattle.i2c.specs.Numbers.{bad_address, bad_argument, invalid_input}

-- a packet
abbrev pub packet : List ℕ
packet = 0x01 ∷ 0x0a ∷ 0x09 ∷ 0xc8 ∷ 0x7e ∷ []

-- its frame from 0x20 to 0x1d, written out
abbrev pub written : List ℕ
written = 0x3a ∷ 0x0f ∷ 0x06 ∷ 0x41 ∷ 0x01 ∷ 0x0a ∷ 0x09 ∷ 0xc8 ∷ 0x7e ∷ []

-- and its PEC
abbrev written_pec : List ℕ
written_pec = written ++ (0x35 ∷ [])

-- the byte count is 6 in both: the PEC is not counted
abbrev pub FramesWritten : Type 0
FramesWritten = (frame 0x20 0x1d false packet ≡ written) × (frame 0x20 0x1d true packet ≡ written_pec)

-- what encode answers: done where there is room, one byte more with PEC; number 3 with a byte less, and for a payload of 255 bytes; number 4 before both
abbrev pub Answered : Type 0
Answered = (encode_answer 0x20 0x1d false 5 9 ≡ answer done (9 ∷ [])) × (encode_answer 0x20 0x1d true 5 10 ≡ answer done (10 ∷ []))
    × (encode_answer 127 127 false 254 258 ≡ answer done (258 ∷ []))
    × (encode_answer 0x20 0x1d false 5 8 ≡ answer bad_argument []) × (encode_answer 0x20 0x1d true 5 9 ≡ answer bad_argument [])
    × (encode_answer 0x20 0x1d false 255 300 ≡ answer bad_argument [])
    × (encode_answer 128 0x1d false 255 8 ≡ answer bad_address []) × (encode_answer 0x20 128 false 255 8 ≡ answer bad_address [])

-- the frame is written at the output's start, and the byte beyond it keeps its content; a refusal writes nothing
abbrev pub OutputWritten : Type 0
OutputWritten = (encode_output (Ok 9) 0x20 0x1d false packet (replicate 10 0xff) ≡ written ++ (0xff ∷ []))
    × (encode_output (Ok 10) 0x20 0x1d true packet (replicate 11 0xff) ≡ written_pec ++ (0xff ∷ []))
    × (encode_output (Err BadAddress) 128 0x1d false packet (replicate 10 0xff) ≡ replicate 10 0xff)
    × (encode_output (Err BadArgument) 0x20 0x1d false packet (replicate 8 0xff) ≡ replicate 8 0xff)

-- they are decoded, also with another destination, and with the low bit of the fourth byte not set
abbrev pub FramesDecoded : Type 0
FramesDecoded = Gives false written 0x20 packet × Gives true written_pec 0x20 packet
    × Gives false (0x00 ∷ 0x0f ∷ 0x01 ∷ 0x40 ∷ []) 0x20 []

-- each check by itself, in document 01's order; and where one refuses, the part is empty and at the start
abbrev pub NearMisses : Type 0
NearMisses = (decode_answer true [] ≡ answer invalid_input []) × (decode_answer true (written ++ (0x00 ∷ [])) ≡ answer invalid_input [])
    × (decode_answer false (0x3a ∷ 0x0f ∷ 0x01 ∷ []) ≡ answer invalid_input [])
    × (decode_answer false (0x3a ∷ 0x0f ∷ 0x02 ∷ 0x41 ∷ []) ≡ answer invalid_input [])
    × (decode_answer false (0x3a ∷ 0x0e ∷ 0x01 ∷ 0x41 ∷ []) ≡ answer invalid_input [])
    × (payload_part false (0x3a ∷ 0x0e ∷ 0x01 ∷ 0x41 ∷ []) ≡ no_part)

-- what encode answers, in document 01's numbers, with the length written: a conversion to `u32` that tells a bad address by a bad argument's number breaks
-- its contract
abbrev pub EncodedTold : Type 0
EncodedTold = ((n : ℕ) → encoded_answer (Ok n) ≡ answer 0 (n ∷ [])) × (encoded_answer (Err BadAddress) ≡ answer 4 [])
    × (encoded_answer (Err BadArgument) ≡ answer 3 [])

-- and decode, with the source address: so does one that tells a refused frame by the number of a refused USB header, 7
abbrev pub DecodedTold : Type 0
DecodedTold = ((source : ℕ) → decoded_answer (Ok source) ≡ answer 0 (source ∷ [])) × (decoded_answer (Err InvalidInput) ≡ answer 5 [])
