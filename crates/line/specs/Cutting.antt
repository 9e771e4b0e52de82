-- A stream taken in pieces: whatever pieces, allowances and outputs a caller chooses, the taker gives the packets and the state of one pass over
-- the stream. The proofs: `proofs/Cutting.antt`. Assumes nothing.
use Rattle.std.specs.Prelude.{ℕ, ◌+◌, ◌-◌, ◌≤◌, ◌≡◌, List, [], ◌∷◌, ◌++◌, length, drop}
use Rattle.checks.specs.Laws.{Bytes}
use Rattle.framing.specs.Frame.{packet_most}
use Rattle.serial.specs.declared.receiver.Receiver.{Receiver}
use Rattle.serial.specs.declared.taker.Taken.{Taken}
use Rattle.serial.specs.Consistency.{Consistent}
use Rattle.serial.specs.Run.{run_of, outs_of}
use Rattle.serial.specs.Steps.{Call, called, handed}

-- what calls give: the packets, the state, how far they came, and the bytes that are left
pub record Fed : Type 0 where
  pub packets : List (ℕ × List ℕ)
  pub state : Receiver
  pub place : ℕ
  pub rest : List ℕ

abbrev pub before : List (ℕ × List ℕ) → Fed → Fed
before packets f = record { packets = packets ++ f.packets; state = f.state; place = f.place; rest = f.rest }

-- what a call does on a stream, from a state: the taker's call, or any other that is held against it
abbrev pub Calling : Type 0
Calling = Call → Receiver → List ℕ → Taken

-- one call after the other, each with the state that the last one left and the bytes that it did not take; the stream's first byte has place i
unfoldable pub fed_by : Calling → List Call → ℕ → Receiver → List ℕ → Fed
fed_by calling [] i s stream = record { packets = []; state = s; place = i; rest = stream }
fed_by calling (c ∷ cs) i s stream =
    before (handed (calling c s stream).reason (calling c s stream).state (i + (calling c s stream).taken - 1) [])
    (fed_by calling cs (i + (calling c s stream).taken) (calling c s stream).state (drop (calling c s stream).taken stream))

-- by the taker's calls
abbrev pub fed_of : List Call → ℕ → Receiver → List ℕ → Fed
fed_of calls i s stream = fed_by called calls i s stream

-- what the calls handed out, and what one pass over the rest hands out behind it, is what one pass hands out; and likewise the state
pub record OnePass (i : ℕ) (s : Receiver) (stream : List ℕ) (f : Fed) : Type 0 where
  pub packets : outs_of i s stream ≡ f.packets ++ outs_of f.place f.state f.rest
  pub state : run_of s stream ≡ run_of f.state f.rest

-- whatever the calls, from any consistent state
abbrev pub AnyCuttingBy : Calling → Type 0
AnyCuttingBy calling = (calls : List Call) (i : ℕ) (s : Receiver) (stream : List ℕ) → Consistent s → Bytes stream
    → OnePass i s stream (fed_by calling calls i s stream)

abbrev pub AnyCutting : Type 0
AnyCutting = AnyCuttingBy called

-- so where nothing is left, the packets and the state are those of one pass
abbrev pub WholeCutting : Type 0
WholeCutting = (calls : List Call) (i : ℕ) (s : Receiver) (stream : List ℕ) → Consistent s → Bytes stream → (fed_of calls i s stream).rest ≡ []
    → ((fed_of calls i s stream).packets ≡ outs_of i s stream) × ((fed_of calls i s stream).state ≡ run_of s stream)

-- and nothing is left after as many calls as the stream has bytes, each with a byte offered, a byte allowed and room
abbrev pub Willing : Call → Type 0
Willing c = (1 ≤ c.offered) × (1 ≤ c.allowance) × (packet_most ≤ c.room)

abbrev AllWilling : List Call → Type 0
AllWilling [] = Unit {0}
AllWilling (c ∷ cs) = Willing c × AllWilling cs

abbrev pub NothingLeft : Type 0
NothingLeft = (calls : List Call) (i : ℕ) (s : Receiver) (stream : List ℕ) → Consistent s → Bytes stream → AllWilling calls
    → length stream ≤ length calls → (fed_of calls i s stream).rest ≡ []
