-- The frame writer: which packets it takes, what it answers (document 01, 'Numbers given back', with its order), and what it leaves in the output.
-- Assumes nothing.
use Rattle.std.specs.Prelude.{ℕ, ◌≡◌, Bool, true, cond, ◌&&◌, List, [], ◌∷◌, Result, Ok, Err, leb, length}
use Rattle.checks.specs.Laws.{Bytes}
use Rattle.checks.specs.Numbers.{Answer, answer, done, short_output}
use Rattle.checks.specs.Output.{at_start}
use Rattle.framing.specs.declared.error.FrameError.{FrameError}
use Rattle.framing.specs.Error.{frame_error_number}
use Rattle.framing.specs.Frame.{Sendable, frame, packet_least, packet_most}
use Rattle.framing.specs.Numbers.{bad_length}

-- the writer's test: a packet of as many bytes as one that is sent has
abbrev pub sendable : List ℕ → Bool
sendable packet = leb packet_least (length packet) && leb (length packet) packet_most

-- it holds of a packet of bytes where that is one that is sent, and only there
abbrev pub SendableTested : Type 0
SendableTested = (packet : List ℕ) → Bytes packet → (Sendable packet → sendable packet ≡ true) × (sendable packet ≡ true → Sendable packet)

-- the answer in document 01's numbers; the value is the frame's length
abbrev pub written_answer : Result ℕ FrameError → Answer
written_answer (Ok n) = answer done (n ∷ [])
written_answer (Err e) = answer (frame_error_number e) []

-- of a packet, into an output of `room` bytes; 1 before 2
unfoldable pub writer_answer : List ℕ → ℕ → Answer
writer_answer packet room =
    cond (sendable packet)
    (cond (leb (length (frame packet)) room) (answer done (length (frame packet) ∷ [])) (answer short_output []))
    (answer bad_length [])

-- the output after it
unfoldable pub output_of : Result ℕ FrameError → List ℕ → List ℕ → List ℕ
output_of (Ok n) packet out = at_start (frame packet) out
output_of (Err e) packet out = out
