-- What is computed, step by step, from the definitions: fresh, consistent, step and the taker at their limits, one beside the other, and every answer's
-- number and value. A function that answers anything else there breaks its contract. The proofs: `proofs/Computed.antt`. Assumes nothing.
use Rattle.std.specs.Prelude.{ℕ, ◌≡◌, true, false, [], ◌∷◌, ◌++◌, Some, None, Ok, Err, get_or, replicate}
use Rattle.checks.specs.Numbers.{answer, inconsistent, short_output, value_of}
use Rattle.framing.specs.Computed.{ending}
use Rattle.framing.specs.Frame.{flag, frame, revision}
use Rattle.serial.specs.declared.receiver.Position.{Position}
use Rattle.serial.specs.declared.receiver.Position.TheVariants.{FrameSearch, SerialRevision, ByteCount, Data, DataEscaped, Check, FrameEnd}
use Rattle.serial.specs.declared.receiver.Receiver.{Receiver}
use Rattle.serial.specs.declared.taker.Stop.TheVariants.{Packet, InputEnded, AllowanceSpent}
use Rattle.serial.specs.declared.taker.TakeError.TheVariants.{ShortOutput, Inconsistent}
use Rattle.serial.specs.declared.taker.Taken.{Taken}
use Rattle.serial.specs.Answers.{outcome_answer, reason_answer, step_answer, take_error_number, taker_answer}
use Rattle.serial.specs.Receiver.{begun, changed, consistent_of, fresh_of, move_to, position_number, positions, step_of}
use Rattle.serial.specs.Taker.{copied_of, stop, taken_of}

-- a state with a count and a stored length, behind the revision and that count
abbrev pub behind : Position → ℕ → ℕ → Receiver
behind p n l = changed p n l (revision ∷ n ∷ replicate 257 0) fresh_of

-- ---- positions: the number of each, in the order of document 01's table, and back; of a number that none has, FrameEnd

abbrev pub PositionsTold : Type 0
PositionsTold = (position_number FrameSearch ≡ 0) × (position_number SerialRevision ≡ 1) × (position_number ByteCount ≡ 2) × (position_number Data ≡ 3)
    × (position_number DataEscaped ≡ 4) × (position_number Check ≡ 5) × (position_number FrameEnd ≡ 6)
    × (get_or positions 0 FrameEnd ≡ FrameSearch) × (get_or positions 1 FrameEnd ≡ SerialRevision) × (get_or positions 2 FrameEnd ≡ ByteCount)
    × (get_or positions 3 FrameEnd ≡ Data) × (get_or positions 4 FrameEnd ≡ DataEscaped) × (get_or positions 5 FrameEnd ≡ Check)
    × (get_or positions 6 FrameEnd ≡ FrameEnd) × (get_or positions 7 FrameEnd ≡ FrameEnd)

-- ---- fresh: no other position, and no stored byte but 0

abbrev pub NotFresh : Type 0
NotFresh = (move_to SerialRevision fresh_of ≡ fresh_of → ⊥) × (begun 1 FrameSearch fresh_of ≡ fresh_of → ⊥)

-- ---- consistent: what fits, and what lies one beside it

abbrev pub Fitting : Type 0
Fitting = (consistent_of fresh_of ≡ true) × (consistent_of (behind ByteCount 0 1) ≡ true)
    × (consistent_of (behind Data 5 2) ≡ true) × (consistent_of (behind Data 5 6) ≡ true)
    × (consistent_of (behind DataEscaped 5 2) ≡ true) × (consistent_of (behind DataEscaped 5 6) ≡ true)
    × (consistent_of (behind Check 5 7) ≡ true) × (consistent_of (behind Check 5 8) ≡ true)
    × (consistent_of (behind FrameEnd 1 5) ≡ true) × (consistent_of (behind FrameEnd 255 259) ≡ true)

abbrev pub NotFitting : Type 0
NotFitting = (consistent_of (behind FrameSearch 0 260) ≡ false) × (consistent_of (behind FrameSearch 256 0) ≡ false)
    × (consistent_of (behind ByteCount 0 0) ≡ false) × (consistent_of (behind ByteCount 0 2) ≡ false)
    × (consistent_of (behind Data 0 2) ≡ false) × (consistent_of (behind Data 5 1) ≡ false) × (consistent_of (behind Data 5 7) ≡ false)
    × (consistent_of (behind DataEscaped 5 1) ≡ false) × (consistent_of (behind DataEscaped 5 7) ≡ false)
    × (consistent_of (behind Check 5 6) ≡ false) × (consistent_of (behind Check 5 9) ≡ false)
    × (consistent_of (behind FrameEnd 5 8) ≡ false) × (consistent_of (behind FrameEnd 5 10) ≡ false)
    × (consistent_of (changed ByteCount 0 1 (0x02 ∷ replicate 258 0) fresh_of) ≡ false)
    × (consistent_of (changed FrameEnd 5 9 (revision ∷ 6 ∷ replicate 257 0) fresh_of) ≡ false)

-- ---- a step from a state that is not consistent: 9 and not nothing, and a fresh state, whatever the byte

abbrev pub StepRefuses : Type 0
StepRefuses = (b : ℕ) → (step_answer b (behind Data 0 2) ≡ answer inconsistent []) × ((step_of b (behind Data 0 2)).state ≡ fresh_of)

-- ---- the taker: 9 before 2; an output of 254 bytes and one of 255; the input's end is named before the allowance's

abbrev pub TakerAtLimits : Type 0
TakerAtLimits = (taken_of (flag ∷ []) 1 0 (behind Data 0 2) ≡ stop (Err Inconsistent) 0 fresh_of)
    × (taker_answer (flag ∷ []) 1 254 fresh_of ≡ answer short_output []) × (taken_of (flag ∷ []) 1 254 fresh_of ≡ stop (Err ShortOutput) 0 fresh_of)
    × (taken_of (flag ∷ []) 1 255 fresh_of ≡ stop (Ok InputEnded) 1 (move_to SerialRevision fresh_of))
    × (taken_of (flag ∷ flag ∷ []) 1 255 fresh_of ≡ stop (Ok AllowanceSpent) 1 (move_to SerialRevision fresh_of))
    × (taken_of [] 0 255 fresh_of ≡ stop (Ok InputEnded) 0 fresh_of) × (taken_of (flag ∷ []) 0 255 fresh_of ≡ stop (Ok AllowanceSpent) 0 fresh_of)

-- ---- the taker, where there is a packet: case A's frame and a byte behind it, with an allowance of 99

abbrev case_a_taken : Taken
case_a_taken = taken_of (frame (ending flag) ++ (0x00 ∷ [])) 99 255 fresh_of

-- the count is 12, and neither the input's length nor the allowance; the packet stands at the output's start, without the count before it
abbrev pub PacketHandedOut : Type 0
PacketHandedOut = (case_a_taken.reason ≡ Ok (Packet 5)) × (case_a_taken.taken ≡ 12)
    × (copied_of case_a_taken.reason case_a_taken.state (replicate 255 0xaa) ≡ ending flag ++ replicate 250 0xaa)

-- ---- the number of every answer, from document 01's table, and its value, which is 0 where it has none: no other number, and no length lost

abbrev pub OutcomeTold : Type 0
OutcomeTold = (n : ℕ) → ((outcome_answer (Ok None)).number ≡ 0) × (value_of (outcome_answer (Ok None)) ≡ 0)
    × ((outcome_answer (Ok (Some n))).number ≡ 0) × (value_of (outcome_answer (Ok (Some n))) ≡ n)
    × ((outcome_answer (Err record {})).number ≡ 9) × (value_of (outcome_answer (Err record {})) ≡ 0)

abbrev pub ReasonTold : Type 0
ReasonTold = (n : ℕ) → ((reason_answer (Ok (Packet n))).number ≡ 0) × (value_of (reason_answer (Ok (Packet n))) ≡ n)
    × ((reason_answer (Ok InputEnded)).number ≡ 0) × (value_of (reason_answer (Ok InputEnded)) ≡ 0)
    × ((reason_answer (Ok AllowanceSpent)).number ≡ 0) × (value_of (reason_answer (Ok AllowanceSpent)) ≡ 0)
    × ((reason_answer (Err ShortOutput)).number ≡ 2) × (value_of (reason_answer (Err ShortOutput)) ≡ 0)
    × ((reason_answer (Err Inconsistent)).number ≡ 9) × (value_of (reason_answer (Err Inconsistent)) ≡ 0)

-- and of every refusal by itself
abbrev pub RefusalsTold : Type 0
RefusalsTold = (inconsistent ≡ 9) × (take_error_number ShortOutput ≡ 2) × (take_error_number Inconsistent ≡ 9)
