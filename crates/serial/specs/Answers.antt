-- Each answer in document 01's numbers and values, and when each number is given (document 01, 'Numbers given back', with its order).
-- Assumes nothing.
use Rattle.std.specs.Prelude.{ℕ, ◌≡◌, cond, List, [], ◌∷◌, Some, None, Ok, Err, ltb, length, take}
use Rattle.checks.specs.Numbers.{Answer, answer, done, inconsistent, short_output}
use Rattle.framing.specs.Frame.{packet_most}
use Rattle.serial.specs.declared.receiver.Inconsistent.{Inconsistent}
use Rattle.serial.specs.declared.receiver.Position.{Position}
use Rattle.serial.specs.declared.receiver.Position.TheVariants.{FrameSearch, SerialRevision, ByteCount, Data, DataEscaped, Check, FrameEnd}
use Rattle.serial.specs.declared.receiver.Receiver.{Receiver}
use Rattle.serial.specs.declared.taker.Stop.TheVariants.{Packet, InputEnded, AllowanceSpent}
use Rattle.serial.specs.declared.taker.TakeError.{TakeError}
use Rattle.serial.specs.declared.taker.TakeError.TheVariants.{ShortOutput, Inconsistent as InconsistentTaken}
use Rattle.serial.specs.Receiver.{Outcome, consistent_of, hands_out}
use Rattle.serial.specs.Run.{outs_of}
use Rattle.serial.specs.Taker.{Reason}

-- ---- the refusals' numbers

-- of a state that is not consistent
abbrev pub IsInconsistentNumber : Inconsistent → ℕ → Type 0
IsInconsistentNumber e n = n ≡ inconsistent

-- of the taker's refusals
abbrev pub take_error_number : TakeError → ℕ
take_error_number ShortOutput = short_output
take_error_number InconsistentTaken = inconsistent

abbrev pub IsTakeErrorNumber : TakeError → ℕ → Type 0
IsTakeErrorNumber e n = n ≡ take_error_number e

-- ---- a step: the value is a handed-out packet's length

abbrev pub outcome_answer : Outcome → Answer
outcome_answer (Ok None) = answer done []
outcome_answer (Ok (Some n)) = answer done (n ∷ [])
outcome_answer (Err e) = answer inconsistent []

-- the length of the packet that a byte hands out, if it does
abbrev pub handed_at : Position → ℕ → Receiver → List ℕ
handed_at FrameSearch b s = []
handed_at SerialRevision b s = []
handed_at ByteCount b s = []
handed_at Data b s = []
handed_at DataEscaped b s = []
handed_at Check b s = []
handed_at FrameEnd b s = cond (hands_out b s) (s.count ∷ []) []

-- of a byte, on a state
abbrev pub step_answer : ℕ → Receiver → Answer
step_answer b s = cond (consistent_of s) (answer done (handed_at s.position b s)) (answer inconsistent [])

-- ---- the taker: the value is a handed-out packet's length

abbrev pub reason_answer : Reason → Answer
reason_answer (Ok (Packet n)) = answer done (n ∷ [])
reason_answer (Ok InputEnded) = answer done []
reason_answer (Ok AllowanceSpent) = answer done []
reason_answer (Err ShortOutput) = answer short_output []
reason_answer (Err InconsistentTaken) = answer inconsistent []

-- the length of the first of some packets, if there is one
abbrev pub first_length : List (ℕ × List ℕ) → List ℕ
first_length [] = []
first_length (o ∷ os) = length o.1 ∷ []

-- from a state, with an output of `room` bytes: the first packet that one pass over the bytes allowed hands out; 9 before 2
abbrev pub taker_answer : List ℕ → ℕ → ℕ → Receiver → Answer
taker_answer input allowance room s =
    cond (consistent_of s)
    (cond (ltb room packet_most) (answer short_output []) (answer done (first_length (outs_of 0 s (take allowance input)))))
    (answer inconsistent [])
