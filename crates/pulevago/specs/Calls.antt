-- What the calls on a lent state answer where no function below answers a Result for it: whether it could be made fresh, whether it is one, and why the
-- taker stopped. Assumes nothing.
use Rattle.std.specs.Prelude.{ℕ, Bool, cond, List, [], Ok, Err}
use Rattle.checks.specs.Numbers.{Answer, answer, done, inconsistent}
use Rattle.serial.specs.declared.taker.Stop.TheVariants.{Packet, InputEnded, AllowanceSpent}
use Rattle.serial.specs.Taker.{Reason}
use Rattle.state.specs.InBuffer.{holds_state}
use Rattle.state.specs.State.{sized}

-- done where a test on a state holds, else number 9
abbrev pub done_where : Bool → Answer
done_where test = answer (cond test done inconsistent) []

-- fresh: any buffer of a state's size
abbrev pub fresh_answer : List ℕ → Answer
fresh_answer bytes = done_where (sized bytes)

-- the test: a buffer that holds a state
abbrev pub test_answer : List ℕ → Answer
test_answer bytes = done_where (holds_state bytes)

-- why the taker stopped: a packet, the input's end, the allowance's. Of a refusal none is given
abbrev pub reason_number : Reason → ℕ
reason_number (Ok (Packet n)) = 0
reason_number (Ok InputEnded) = 1
reason_number (Ok AllowanceSpent) = 2
reason_number (Err e) = 0
