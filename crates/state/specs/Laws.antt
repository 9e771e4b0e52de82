-- Load and store are each other's inverse on consistent states, any other bytes are refused, and what a call leaves is a state. The proofs:
-- `proofs/StateLaws.antt`. Assumes nothing.
use Rattle.std.specs.Prelude.{ℕ, ◌≤◌, ◌<◌, ◌≡◌, true, false, List, [], ◌∷◌, length, replicate}
use Rattle.checks.specs.Laws.{Bytes}
use Rattle.checks.specs.Numbers.{answer, inconsistent, short_output}
use Rattle.checks.specs.Part.{bytes_of}
use Rattle.serial.specs.declared.receiver.Receiver.{Receiver}
use Rattle.serial.specs.Consistency.{Consistent}
use Rattle.serial.specs.Receiver.{consistent_of, fresh_of, step_of, stored_size}
use Rattle.serial.specs.Run.{packet_in, run_of}
use Rattle.state.specs.InBuffer.{handed_part, holds_state, step_answer_in, step_leaves, steps_leave, take_answer_in, take_leaves, taken_in}
use Rattle.state.specs.State.{left, loaded, sized, state_bytes, state_size}

-- stored, and loaded again: the same state, and a buffer of it holds one
abbrev pub StoredLoaded : Type 0
StoredLoaded = (s : Receiver) → Consistent s → (loaded (state_bytes s) ≡ s) × (holds_state (state_bytes s) ≡ true)

-- loaded, and stored again: the same bytes. So bytes that hold a state are those of a consistent state, and no others
abbrev pub LoadedStored : Type 0
LoadedStored = (bytes : List ℕ) → Bytes bytes → holds_state bytes ≡ true → Consistent (loaded bytes) × (state_bytes (loaded bytes) ≡ bytes)

-- whatever state is stored in a buffer of a state's size, the buffer then holds a state exactly where that one is consistent
abbrev pub StoredTells : Type 0
StoredTells = (bytes : List ℕ) (s : Receiver) → sized bytes ≡ true → length s.stored ≡ stored_size → holds_state (left bytes s) ≡ consistent_of s

-- a fresh state is 263 zeros
abbrev pub FreshZeros : Type 0
FreshZeros = state_bytes fresh_of ≡ replicate state_size 0

-- bytes of a state's size that hold none: number 9, from a step and from the taker, and fresh bytes after it
abbrev pub NoState : Type 0
NoState = (bytes : List ℕ) → sized bytes ≡ true → holds_state bytes ≡ false
    → ((b : ℕ) → (step_answer_in b bytes ≡ answer inconsistent []) × (step_leaves b bytes ≡ state_bytes fresh_of))
    × ((input : List ℕ) (allowance room : ℕ)
    → (take_answer_in input allowance room bytes ≡ answer inconsistent []) × (take_leaves input allowance room bytes ≡ state_bytes fresh_of))

-- a buffer of another size: number 9, and it is left as it is
abbrev pub WrongSize : Type 0
WrongSize = (bytes : List ℕ) → sized bytes ≡ false
    → ((b : ℕ) → (step_answer_in b bytes ≡ answer inconsistent []) × (step_leaves b bytes ≡ bytes))
    × ((input : List ℕ) (allowance room : ℕ)
    → (take_answer_in input allowance room bytes ≡ answer inconsistent []) × (take_leaves input allowance room bytes ≡ bytes))

-- whatever stood in a buffer of a state's size, a step and the taker leave a state there
abbrev pub LeavesState : Type 0
LeavesState = (bytes : List ℕ) → sized bytes ≡ true
    → ((b : ℕ) → b < 256 → holds_state (step_leaves b bytes) ≡ true)
    × ((input : List ℕ) (allowance room : ℕ) → Bytes input → holds_state (take_leaves input allowance room bytes) ≡ true)

-- and it is the state that the receiver's own functions hand back, so a receiver may be kept as bytes between any two calls
abbrev pub GoesOn : Type 0
GoesOn = (bytes : List ℕ) → sized bytes ≡ true
    → ((b : ℕ) → b < 256 → loaded (step_leaves b bytes) ≡ (step_of b (loaded bytes)).state)
    × ((input : List ℕ) (allowance room : ℕ) → Bytes input
    → loaded (take_leaves input allowance room bytes) ≡ (taken_in input allowance room bytes).state)

-- so bytes fed one by one leave the bytes of the state that the definition's run over them comes to: what is proved of runs, demand 3 too, holds of a
-- receiver that is kept as bytes
abbrev pub StepsRun : Type 0
StepsRun = (s : Receiver) (bs : List ℕ) → Consistent s → Bytes bs → steps_leave bs (state_bytes s) ≡ state_bytes (run_of s bs)

-- number 2 from the taker leaves the state's bytes as they are
abbrev pub ShortKept : Type 0
ShortKept = (input bytes : List ℕ) (allowance room : ℕ) → Bytes bytes
    → take_answer_in input allowance room bytes ≡ answer short_output [] → take_leaves input allowance room bytes ≡ bytes

-- a packet that a step hands out stands in the buffer, at the part that is given
abbrev pub HandedThere : Type 0
HandedThere = (bytes : List ℕ) (b n : ℕ) → sized bytes ≡ true → (step_answer_in b bytes).values ≡ n ∷ []
    → bytes_of (handed_part (step_answer_in b bytes).values) (step_leaves b bytes) ≡ packet_in n (step_of b (loaded bytes)).state

-- and it has a byte, so a size of 0 says that there is none
abbrev pub HandedSome : Type 0
HandedSome = (bytes : List ℕ) (b n : ℕ) → (step_answer_in b bytes).values ≡ n ∷ [] → 1 ≤ n
