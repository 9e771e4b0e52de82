-- What is computed from the definitions: frames written out byte by byte, and what a writer answers and leaves. An error in a definition breaks these
-- first, and a writer that answers or leaves anything else there breaks its contract. The proofs: `proofs/Computed.antt`. Assumes nothing.
use Rattle.std.specs.Prelude.{ℕ, ◌≡◌, List, [], ◌∷◌, ◌++◌, Ok, Err, replicate}
use Rattle.checks.specs.Numbers.{answer, done, short_output, value_of}
use Rattle.framing.specs.declared.error.FrameError.TheVariants.{BadLength, ShortOutput}
use Rattle.framing.specs.Frame.{flag, frame}
use Rattle.framing.specs.Numbers.{bad_length}
use Rattle.framing.specs.Writer.{output_of, writer_answer, written_answer}

-- a packet of five bytes that ends with b
abbrev pub ending : ℕ → List ℕ
ending b = 0x01 ∷ 0x0a ∷ 0x09 ∷ 0xc8 ∷ b ∷ []

-- case A's frame, as document 01 prints it: the packet's flag is escaped
abbrev pub CaseAFrame : Type 0
CaseAFrame =
    frame (ending flag)
    ≡ 0x7e ∷ 0x01 ∷ 0x05 ∷ 0x01 ∷ 0x0a ∷ 0x09 ∷ 0xc8 ∷ 0x7d ∷ 0x5e ∷ 0x2d ∷ 0xba ∷ 0x7e ∷ []

-- a flag as a check byte stands as it is: this packet's check is cd7e. A frame whose check bytes are escaped is another
abbrev pub FlagAsCheck : Type 0
FlagAsCheck =
    frame (0x00 ∷ 0x00 ∷ 0x00 ∷ 0x00 ∷ 0x74 ∷ [])
    ≡ 0x7e ∷ 0x01 ∷ 0x05 ∷ 0x00 ∷ 0x00 ∷ 0x00 ∷ 0x00 ∷ 0x74 ∷ 0xcd ∷ 0x7e ∷ 0x7e ∷ []

-- a flag as the count stands as it is: a packet of 126 bytes, 01 and zeros, whose check is 2a37. A frame whose count is escaped is another
abbrev pub FlagAsCount : Type 0
FlagAsCount =
    frame (0x01 ∷ replicate 125 0x00)
    ≡ 0x7e ∷ 0x01 ∷ 0x7e ∷ 0x01 ∷ (replicate 125 0x00 ++ (0x2a ∷ 0x37 ∷ 0x7e ∷ []))

-- the number of every answer, from document 01's table, and its value, which is 0 where it has none: no other number (3 is I2C's), no length lost, and no
-- value of a refusal
abbrev pub NumbersTold : Type 0
NumbersTold = (n : ℕ) → ((written_answer (Ok n)).number ≡ 0) × (value_of (written_answer (Ok n)) ≡ n)
    × ((written_answer (Err BadLength)).number ≡ 1) × (value_of (written_answer (Err BadLength)) ≡ 0)
    × ((written_answer (Err ShortOutput)).number ≡ 2) × (value_of (written_answer (Err ShortOutput)) ≡ 0)

-- packets of 4, 5, 255 and 256 bytes, which have no byte to escape: 5 to 255 are written, each into six bytes more, and into one byte less of room not
abbrev pub LengthsAnswered : Type 0
LengthsAnswered = (writer_answer (replicate 4 0x00) 11 ≡ answer bad_length []) × (writer_answer (replicate 5 0x00) 11 ≡ answer done (11 ∷ []))
    × (writer_answer (replicate 5 0x00) 10 ≡ answer short_output []) × (writer_answer (replicate 255 0x00) 261 ≡ answer done (261 ∷ []))
    × (writer_answer (replicate 255 0x00) 260 ≡ answer short_output []) × (writer_answer (replicate 256 0x00) 262 ≡ answer bad_length [])

-- 1 before 2: a packet of no bytes, and no room for a frame. A writer that looks at the room first answers 2
abbrev pub LengthFirst : Type 0
LengthFirst = writer_answer [] 0 ≡ answer bad_length []

-- a writer that answers done and writes nothing does not meet its contract: twelve zeros are not case A's frame
abbrev pub SomethingWritten : Type 0
SomethingWritten = output_of (Ok 12) (ending flag) (replicate 12 0x00) ≡ replicate 12 0x00 → ⊥

-- the bytes beyond the frame keep their content, the very next one too
abbrev pub RestKept : Type 0
RestKept = output_of (Ok 12) (ending flag) (replicate 14 0xaa) ≡ frame (ending flag) ++ (0xaa ∷ 0xaa ∷ [])
