-- What a step and the taker do with the state that a buffer holds, and what they leave there. Where it holds none, what is loaded is not consistent, so the
-- answer is number 9. Assumes nothing.
use Rattle.std.specs.Prelude.{ℕ, ◌+◌, Bool, List, [], ◌∷◌, length}
use Rattle.checks.specs.Numbers.{Answer}
use Rattle.checks.specs.Part.{Part, no_part, part}
use Rattle.serial.specs.declared.receiver.Stepped.{Stepped}
use Rattle.serial.specs.declared.taker.Taken.{Taken}
use Rattle.serial.specs.Answers.{step_answer, taker_answer}
use Rattle.serial.specs.Receiver.{consistent_of, step_of}
use Rattle.serial.specs.Taker.{copied_of, taken_of}
use Rattle.state.specs.declared.kept.Took.{Took}
use Rattle.state.specs.State.{left, loaded, stored_at}

-- whether a buffer holds a state
abbrev pub holds_state : List ℕ → Bool
holds_state bytes = consistent_of (loaded bytes)

-- ---- a step

-- what it gives
abbrev pub step_in : ℕ → List ℕ → Stepped
step_in b bytes = step_of b (loaded bytes)

-- its answer
unfoldable pub step_answer_in : ℕ → List ℕ → Answer
step_answer_in b bytes = step_answer b (loaded bytes)

-- the buffer after it
unfoldable pub step_leaves : ℕ → List ℕ → List ℕ
step_leaves b bytes = left bytes (step_in b bytes).state

-- and after several, one after the other, each on the bytes that the one before left
unfoldable pub steps_leave : List ℕ → List ℕ → List ℕ
steps_leave [] bytes = bytes
steps_leave (b ∷ bs) bytes = steps_leave bs (step_leaves b bytes)

-- the place of a packet that was handed out: it stands at the stored bytes from 2 on
abbrev pub packet_place : ℕ
packet_place = stored_at + 2

-- that packet as a part of the buffer, by an answer's values
abbrev pub handed_part : List ℕ → Part
handed_part [] = no_part
handed_part (n ∷ ns) = part packet_place n

-- ---- the taker

-- what it does with an input, an allowance and an output of `room` bytes
abbrev pub taken_in : List ℕ → ℕ → ℕ → List ℕ → Taken
taken_in input allowance room bytes = taken_of input allowance room (loaded bytes)

-- why it stopped, and how many bytes it took
abbrev pub took_in : List ℕ → ℕ → ℕ → List ℕ → Took
took_in input allowance room bytes =
    let t = taken_in input allowance room bytes in
    record { reason = t.reason; taken = t.taken }

-- its answer
unfoldable pub take_answer_in : List ℕ → ℕ → ℕ → List ℕ → Answer
take_answer_in input allowance room bytes = taker_answer input allowance room (loaded bytes)

-- the buffer after it
unfoldable pub take_leaves : List ℕ → ℕ → ℕ → List ℕ → List ℕ
take_leaves input allowance room bytes = left bytes (taken_in input allowance room bytes).state

-- the output after it
unfoldable pub take_output : List ℕ → ℕ → List ℕ → List ℕ → List ℕ
take_output input allowance bytes out =
    let t = taken_in input allowance (length out) bytes in
    copied_of t.reason t.state out
