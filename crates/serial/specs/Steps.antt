-- One call of the taker is steps over the bytes that it took. The proofs: `proofs/Steps.antt`. Assumes nothing.
use Rattle.std.specs.Prelude.{ℕ, ◌+◌, ◌-◌, ◌≤◌, ◌≡◌, List, [], ◌∷◌, Ok, Err, length, take}
use Rattle.serial.specs.declared.receiver.Receiver.{Receiver}
use Rattle.serial.specs.declared.taker.Stop.TheVariants.{Packet, InputEnded, AllowanceSpent}
use Rattle.serial.specs.declared.taker.Taken.{Taken}
use Rattle.serial.specs.Consistency.{Consistent}
use Rattle.serial.specs.Run.{run_of, outs_of, packet_in}
use Rattle.serial.specs.Taker.{Reason, taken_of}

-- what a call hands out, if it does, at the place of the last byte that it took, before what follows
abbrev pub handed : Reason → Receiver → ℕ → List (ℕ × List ℕ) → List (ℕ × List ℕ)
handed (Ok (Packet n)) s i more = (i, packet_in n s) ∷ more
handed (Ok InputEnded) s i more = more
handed (Ok AllowanceSpent) s i more = more
handed (Err e) s i more = more

-- from a consistent state the count is the number of steps: the state is that of one pass over the bytes taken, which are some of the input's
-- and no more than allowed, and what is handed out is what that pass hands out, on its last byte
pub record Steps (input : List ℕ) (allowance : ℕ) (s : Receiver) (t : Taken) : Type 0 where
  pub within : t.taken ≤ length input
  pub allowed : t.taken ≤ allowance
  pub state : t.state ≡ run_of s (take t.taken input)
  pub outs : (i : ℕ) → outs_of i s (take t.taken input) ≡ handed t.reason t.state (i + t.taken - 1) []

abbrev pub CountIsSteps : Type 0
CountIsSteps = (input : List ℕ) (allowance room : ℕ) (s : Receiver) → Consistent s → Steps input allowance s (taken_of input allowance room s)

-- a call: how many of the stream's next bytes its input is, its allowance, and its output's length
pub record Call : Type 0 where
  pub offered : ℕ
  pub allowance : ℕ
  pub room : ℕ

-- a call on a stream, from a state
abbrev pub called : Call → Receiver → List ℕ → Taken
called c s stream = taken_of (take c.offered stream) c.allowance c.room s
