-- Demand 3: a receiver that was fed anything, and then three flags, hands out exactly the packets of the frames that follow. It speaks of the
-- frame's definition, not of the writer. The proofs: `proofs/Demand3.antt`. Assumes nothing.
use Rattle.std.specs.Prelude.{ℕ, ◌+◌, ◌-◌, ◌≡◌, ◌⊎◌, List, [], ◌∷◌, ◌++◌, length, replicate}
use Rattle.checks.specs.Laws.{Bytes}
use Rattle.serial.specs.declared.receiver.Position.TheVariants.{FrameSearch, SerialRevision}
use Rattle.serial.specs.declared.receiver.Receiver.{Receiver}
use Rattle.framing.specs.Frame.{flag, frame, frames, AllSendable}
use Rattle.serial.specs.Consistency.{Consistent}
use Rattle.serial.specs.Receiver.{fresh_of, step_of}
use Rattle.serial.specs.Run.{Step, outs_by, outs_of, run_by, run_of}

-- packets with places, of packets whose first frame begins at a place
abbrev pub Places : Type 0
Places = ℕ → List (List ℕ) → List (ℕ × List ℕ)

-- each packet with the place of its frame's last byte; the first frame begins at place i
unfoldable pub placed : Places
placed i [] = []
placed i (p ∷ ps) = (i + length (frame p) - 1, p) ∷ placed (i + length (frame p)) ps

abbrev pub flags : ℕ → List ℕ
flags n = replicate n flag

-- by a step, from a state on, frames hand out their packets at these places and nothing else; their first byte has place i
abbrev HearsBy : Step → Places → Receiver → Type 0
HearsBy step places s = (i : ℕ) (ps : List (List ℕ)) → AllSendable ps → outs_by step i s (frames ps) ≡ places i ps

-- after any history and n flags
abbrev pub HearsAfterBy : Step → Places → ℕ → Type 0
HearsAfterBy step places n = (h : List ℕ) → Bytes h → HearsBy step places (run_by step fresh_of (h ++ flags n))

-- by our step, each packet on its frame's last byte
abbrev pub Hears : Receiver → Type 0
Hears s = HearsBy step_of placed s

abbrev HearsAfter : ℕ → Type 0
HearsAfter n = HearsAfterBy step_of placed n

abbrev pub Demand3 : Type 0
Demand3 = HearsAfter 3

-- three is the least
abbrev pub TwoFail : Type 0
TwoFail = HearsAfter 2 → ⊥

-- from any consistent state, not only from those that a fresh one is led to
abbrev pub HearsFromAny : Type 0
HearsFromAny = (s : Receiver) → Consistent s → Hears (run_of s (flags 3))

-- of the whole stream: first what the history and the flags hand out, then the frames' packets at their places
abbrev pub Demand3Whole : Type 0
Demand3Whole = (h : List ℕ) → Bytes h → (ps : List (List ℕ)) → AllSendable ps
    → outs_of 0 fresh_of (h ++ flags 3 ++ frames ps) ≡ outs_of 0 fresh_of (h ++ flags 3) ++ placed (length (h ++ flags 3)) ps

-- what it rests on: where the next flag opens a frame, all frames are heard
abbrev pub Open : Receiver → Type 0
Open s = (s.position ≡ FrameSearch) ⊎ (s.position ≡ SerialRevision)

abbrev pub HearsFromOpen : Type 0
HearsFromOpen = (s : Receiver) → Consistent s → Open s → Hears s
