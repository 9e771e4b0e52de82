-- Wrong encoders and decoders. Of each, an input is named at which it does not give what the definitions that the contract cites give there, so the contract
-- refuses it. The proofs: `proofs/Wrong.antt`. Assumes nothing.
use Rattle.std.specs.Prelude.{ℕ, ◌+◌, Bool, true, false, cond, List, [], ◌∷◌, ◌++◌, Ok, ◌≢◌, ltb, length, replicate, set}
use Rattle.checks.specs.Numbers.{Answer, answer}
use Rattle.checks.specs.Output.{at_start}
use Rattle.checks.specs.Part.{part}
use Rattle.i2c.specs.Computed.{packet, written}
use Rattle.i2c.specs.Decode.{body_answer, but_last, decode_answer, payload_part}
use Rattle.i2c.specs.Encode.{encode_answer, encode_output, frame_size}
use Rattle.i2c.specs.Frame.{plain, with_pec}
use Rattle.i2c.specs.Numbers.{bad_argument}

-- ---- encode

-- it tests the room before the addresses, so that number 3 comes before number 4
abbrev room_first : ℕ → ℕ → Bool → ℕ → ℕ → Answer
room_first own dest pec size room = cond (ltb room (frame_size pec size)) (answer bad_argument []) (encode_answer own dest pec size room)

-- an address of 128, and an output that is a byte too short
abbrev pub RoomFirstFails : Type 0
RoomFirstFails = encode_answer 128 0x1d false 5 8 ≢ room_first 128 0x1d false 5 8

-- it counts the PEC in the byte count
abbrev pec_counted : ℕ → ℕ → List ℕ → List ℕ
pec_counted own dest payload = with_pec (set (plain own dest payload) 2 (length payload + 2))

-- whatever the output held
abbrev pub PecCountedFails : Type 0
PecCountedFails = (out : List ℕ) → encode_output (Ok 10) 0x20 0x1d true packet out ≢ at_start (pec_counted 0x20 0x1d packet) out

-- it writes nothing, and answers done
abbrev pub NothingWrittenFails : Type 0
NothingWrittenFails = encode_output (Ok 9) 0x20 0x1d false packet (replicate 9 0xff) ≢ replicate 9 0xff

-- ---- decode

-- it takes any last byte for the PEC
abbrev any_pec : List ℕ → Answer
any_pec input = body_answer (but_last input)

-- a frame, and behind it a byte that is not its PEC
abbrev pub AnyPecFails : Type 0
AnyPecFails = decode_answer true (written ++ (0x00 ∷ [])) ≢ any_pec (written ++ (0x00 ∷ []))

-- where decode refuses, the empty payload lies one byte on: its bytes are the same, its address is not
abbrev pub RefusedElsewhereFails : Type 0
RefusedElsewhereFails = payload_part false [] ≢ part 1 0
