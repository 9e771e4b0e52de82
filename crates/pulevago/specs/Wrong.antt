-- Wrong calls. Of each, an input is named at which it does not give what the definitions that the call's contract cites give there, so the contract refuses
-- it. The proofs: `proofs/Wrong.antt`. Assumes nothing.
use Rattle.std.specs.Prelude.{ℕ, ◌+◌, ◌-◌, ◌/◌, true, false, List, [], ◌∷◌, ◌≢◌, replicate}
use Rattle.checks.specs.FrameCheck.{frame_check, frame_check_from}
use Rattle.checks.specs.Numbers.{Answer, value_of}
use Rattle.checks.specs.PacketErrorCode.{pec_from, pec_of}
use Rattle.framing.specs.Computed.{ending}
use Rattle.framing.specs.Frame.{flag}
use Rattle.framing.specs.Writer.{writer_answer}
use Rattle.i2c.specs.Decode.{decode_answer as decodeFrameAnswer}
use Rattle.state.specs.State.{no_position, sized, state_size}
use Rattle.transfer.specs.Builder.{used_after}
use Rattle.usb.specs.Decode.{decode_answer, remainder_part}
use Rattle.usb.specs.Header.{header_answer, header_of, header_size}
use Rattle.pulevago.specs.Calls.{done_where, test_answer}
use Rattle.pulevago.specs.Lent.{given}

-- ---- the check values

-- a frame check that starts from a register of zeros: of one byte it is another
abbrev pub CheckFromZerosFails : Type 0
CheckFromZerosFails = frame_check (0x01 ∷ []) ≢ frame_check_from 0 (0x01 ∷ [])

-- a packet error code that starts from ones
abbrev pub PecFromOnesFails : Type 0
PecFromOnesFails = pec_of (0x01 ∷ []) ≢ pec_from 0xff (0x01 ∷ [])

-- one that forgets the code of what came before, and starts anew
abbrev pub PecFromStartFails : Type 0
PecFromStartFails = pec_from 0x02 (0x01 ∷ []) ≢ pec_of (0x01 ∷ [])

-- ---- the serial wire

-- case A's packet, with room for its frame and no more
abbrev case_a : Answer
case_a = writer_answer (ending flag) 12

-- a writer that gives half of the frame's length, whatever stood in the lent number
abbrev pub HalfLengthFails : Type 0
HalfLengthFails = (there : ℕ) → given case_a.number there (value_of case_a) ≢ given case_a.number there (value_of case_a / 2)

-- bytes of a state's size whose first is no position's number
abbrev none_held : List ℕ
none_held = no_position ∷ replicate (state_size - 1) 0

-- a test that looks at the size alone: every buffer of a state's size would be said to hold one
abbrev pub SizeAloneFails : Type 0
SizeAloneFails = (test_answer none_held).number ≢ (done_where (sized none_held)).number

-- ---- the I2C wire

-- a header with no payload, and no packet error code behind it
abbrev bare : List ℕ
bare = 0x3a ∷ 0x0f ∷ 0x01 ∷ 0x41 ∷ []

-- a decoder that does not ask for the packet error code where it is wanted
abbrev pub PecNotAskedFails : Type 0
PecNotAskedFails = (decodeFrameAnswer true bare).number ≢ (decodeFrameAnswer false bare).number

-- ---- the USB wire

-- the header of an empty packet, before a packet of one byte
abbrev pub EmptyHeaderFails : Type 0
EmptyHeaderFails = (there : List ℕ) → given (header_answer 1 4).number there (header_of 1) ≢ given (header_answer 0 4).number there (header_of 0)

-- an empty packet behind its header, and nothing behind it
abbrev alone : List ℕ
alone = 0x1a ∷ 0xb4 ∷ 0x00 ∷ 0x04 ∷ []

-- a remainder that begins as if every packet had four bytes
abbrev pub RestElsewhereFails : Type 0
RestElsewhereFails = (there : ℕ)
    → given (decode_answer alone).number there (remainder_part alone).place ≢ given (decode_answer alone).number there (header_size + header_size)

-- a builder whose used count is forgotten: an empty packet, appended to none, uses four bytes
abbrev pub CountLostFails : Type 0
CountLostFails = used_after 0 0 4 ≢ 0
