-- What is computed, step by step, from the definitions: the whole output for case A, as document 01 prints it ('Program'), and what `list` answers and
-- leaves at its limits. A function that answers anything else there breaks its contract. The proofs: `proofs/Computed.antt`. Assumes nothing.
use Rattle.std.specs.Prelude.{ℕ, ◌≡◌, List, [], ◌∷◌, ◌++◌, Ok, Err}
use Rattle.checks.specs.Numbers.{answer, done, inconsistent, short_output, value_of}
use Rattle.framing.specs.Frame.{flag}
use Rattle.serial.specs.declared.receiver.Position.TheVariants.{Data, SerialRevision}
use Rattle.serial.specs.declared.taker.TakeError.TheVariants.{ShortOutput, Inconsistent}
use Rattle.serial.specs.Computed.{behind}
use Rattle.serial.specs.Receiver.{fresh_of, move_to}
use Rattle.listing.specs.Closing.{closing_line, output_for}
use Rattle.listing.specs.Listing.{lines_answer, list_answer, listed, state_after}

-- ---- text

-- case A's frame, of 12 bytes
abbrev pub case_a_frame : List ℕ
case_a_frame = 0x7e ∷ 0x01 ∷ 0x05 ∷ 0x01 ∷ 0x0a ∷ 0x09 ∷ 0xc8 ∷ 0x7d ∷ 0x5e ∷ 0x2d ∷ 0xba ∷ 0x7e ∷ []

-- `010a09c87e` and a line feed, in ASCII
abbrev packet_line : List ℕ
packet_line = 0x30 ∷ 0x31 ∷ 0x30 ∷ 0x61 ∷ 0x30 ∷ 0x39 ∷ 0x63 ∷ 0x38 ∷ 0x37 ∷ 0x65 ∷ 0x0a ∷ []

-- `end: bytes 12 packets 1` and a line feed
abbrev last_line : List ℕ
last_line =
    0x65 ∷ 0x6e ∷ 0x64 ∷ 0x3a ∷ 0x20 ∷ 0x62 ∷ 0x79 ∷ 0x74 ∷ 0x65 ∷ 0x73 ∷ 0x20 ∷ 0x31 ∷ 0x32 ∷ 0x20
    ∷ 0x70 ∷ 0x61 ∷ 0x63 ∷ 0x6b ∷ 0x65 ∷ 0x74 ∷ 0x73 ∷ 0x20 ∷ 0x31 ∷ 0x0a ∷ []

-- a closing line with other words, or with the two numbers swapped, is another text
abbrev pub CaseAWritten : Type 0
CaseAWritten = output_for case_a_frame ≡ packet_line ++ last_line

-- a zero is a digit, and so is each of a number's zeros; the largest number of 64 bits is written whole
abbrev pub LargestWritten : Type 0
LargestWritten = (closing_line 0 18446744073709551615
    ≡ 0x65 ∷ 0x6e ∷ 0x64 ∷ 0x3a ∷ 0x20 ∷ 0x62 ∷ 0x79 ∷ 0x74 ∷ 0x65 ∷ 0x73 ∷ 0x20 ∷ 0x30 ∷ 0x20
    ∷ 0x70 ∷ 0x61 ∷ 0x63 ∷ 0x6b ∷ 0x65 ∷ 0x74 ∷ 0x73 ∷ 0x20 ∷ 0x31 ∷ 0x38 ∷ 0x34 ∷ 0x34 ∷ 0x36 ∷ 0x37 ∷ 0x34 ∷ 0x34 ∷ 0x30 ∷ 0x37
    ∷ 0x33 ∷ 0x37 ∷ 0x30 ∷ 0x39 ∷ 0x35 ∷ 0x35 ∷ 0x31 ∷ 0x36 ∷ 0x31 ∷ 0x35 ∷ 0x0a ∷ [])

-- ---- answers

-- the number of every answer, from document 01's table, and its value, which is 0 where it has none: no other number, no length lost, and no number of a
-- refusal as its value
abbrev pub NumbersTold : Type 0
NumbersTold = (n : ℕ) → ((lines_answer (Ok n)).number ≡ 0) × (value_of (lines_answer (Ok n)) ≡ n)
    × ((lines_answer (Err ShortOutput)).number ≡ 2) × (value_of (lines_answer (Err ShortOutput)) ≡ 0)
    × ((lines_answer (Err Inconsistent)).number ≡ 9) × (value_of (lines_answer (Err Inconsistent)) ≡ 0)

-- the room asked for no byte is 518, for one byte 520, and a byte less is refused by 2; 9 before 2
abbrev pub ListAnswered : Type 0
ListAnswered = (list_answer [] 518 fresh_of ≡ answer done (0 ∷ [])) × (list_answer [] 517 fresh_of ≡ answer short_output [])
    × (list_answer (flag ∷ []) 520 fresh_of ≡ answer done (0 ∷ [])) × (list_answer (flag ∷ []) 519 fresh_of ≡ answer short_output [])
    × (list_answer [] 0 (behind Data 0 2) ≡ answer inconsistent [])

-- the state after a flag is behind it: a call that leaves a fresh state loses a frame that a read cuts in two. After 2 it is the one that went in, after 9
-- a fresh one
abbrev pub StateLeft : Type 0
StateLeft = (state_after (flag ∷ []) 520 fresh_of ≡ move_to SerialRevision fresh_of)
    × (state_after [] 517 (move_to SerialRevision fresh_of) ≡ move_to SerialRevision fresh_of) × (state_after [] 0 (behind Data 0 2) ≡ fresh_of)

-- case A's packet is listed once, on its frame's last byte
abbrev pub CaseAListed : Type 0
CaseAListed = listed case_a_frame 542 fresh_of ≡ (0x01 ∷ 0x0a ∷ 0x09 ∷ 0xc8 ∷ flag ∷ []) ∷ []
