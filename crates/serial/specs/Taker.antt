-- What the taker does: steps over the input's bytes, until a packet, the input's end or the allowance's. Assumes nothing.
use Rattle.std.specs.Prelude.{ℕ, zero, suc, ◌+◌, ◌≤◌, cond, List, [], ◌∷◌, Some, None, Result, Ok, Err, ltb}
use Rattle.checks.specs.Output.{at_start}
use Rattle.framing.specs.Frame.{packet_most}
use Rattle.serial.specs.declared.receiver.Receiver.{Receiver}
use Rattle.serial.specs.declared.taker.Stop.{Stop}
use Rattle.serial.specs.declared.taker.Stop.TheVariants.{Packet, InputEnded, AllowanceSpent}
use Rattle.serial.specs.declared.taker.TakeError.{TakeError}
use Rattle.serial.specs.declared.taker.TakeError.TheVariants.{ShortOutput, Inconsistent}
use Rattle.serial.specs.declared.taker.Taken.{Taken}
use Rattle.serial.specs.Receiver.{Outcome, step_of, fresh_of, consistent_of}
use Rattle.serial.specs.Run.{packet_in}

-- why it stops: a packet of so many bytes, the input's end, the allowance's, number 2 or number 9
abbrev pub Reason : Type 0
Reason = Result Stop TakeError

-- a packet that is taken has at most 255 bytes
abbrev pub IsPacketSize : Stop → Type 0
IsPacketSize (Packet n) = n ≤ packet_most
IsPacketSize InputEnded = Unit {0}
IsPacketSize AllowanceSpent = Unit {0}

-- it stops: why, after how many steps, and in which state
abbrev pub stop : Reason → ℕ → Receiver → Taken
stop why n s = record { reason = why; taken = n; state = s }

-- after a step: `more` where it gave nothing; n steps are made
abbrev pub after_step : Outcome → Receiver → ℕ → Taken → Taken
after_step (Ok None) s n more = more
after_step (Ok (Some k)) s n more = stop (Ok (Packet k)) n s
after_step (Err e) s n more = stop (Err Inconsistent) n s

-- over the bytes that are left, with the allowance that is left, when n steps are made
unfoldable pub take_from : List ℕ → ℕ → Receiver → ℕ → Taken
take_from [] allowance s n = stop (Ok InputEnded) n s
take_from (b ∷ bs) zero s n = stop (Ok AllowanceSpent) n s
take_from (b ∷ bs) (suc allowance) s n =
    after_step (step_of b s).outcome (step_of b s).state (n + 1) (take_from bs allowance (step_of b s).state (n + 1))

-- with an output of `room` bytes: the state is tested before the room
unfoldable pub taken_of : List ℕ → ℕ → ℕ → Receiver → Taken
taken_of input allowance room s =
    cond (consistent_of s) (cond (ltb room packet_most) (stop (Err ShortOutput) 0 s) (take_from input allowance s 0))
    (stop (Err Inconsistent) 0 fresh_of)

-- the output after it: a packet at its start
unfoldable pub copied_of : Reason → Receiver → List ℕ → List ℕ
copied_of (Ok (Packet n)) s out = at_start (packet_in n s) out
copied_of (Ok InputEnded) s out = out
copied_of (Ok AllowanceSpent) s out = out
copied_of (Err e) s out = out
