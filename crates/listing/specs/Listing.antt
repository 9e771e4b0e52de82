-- What `list` answers, and what it leaves: the state, and the packets whose lines are in the output. Assumes nothing.
use Rattle.std.specs.Prelude.{ℕ, ◌+◌, ◌*◌, Bool, cond, ◌&&◌, List, [], ◌∷◌, Result, Ok, Err, leb, length}
use Rattle.checks.specs.Numbers.{Answer, answer, done, inconsistent, short_output}
use Rattle.io.specs.Counts.{IsPrefixLen}
use Rattle.serial.specs.declared.receiver.Receiver.{Receiver}
use Rattle.serial.specs.declared.taker.TakeError.{TakeError}
use Rattle.serial.specs.declared.taker.TakeError.TheVariants.{ShortOutput, Inconsistent}
use Rattle.serial.specs.Receiver.{consistent_of, fresh_of, stored_size}
use Rattle.serial.specs.Run.{heard, run_of}
use Rattle.listing.specs.Text.{lines_of}

-- what is answered: the length of the text, or the refusal by number 2 or 9
abbrev pub Lines : Type 0
Lines = Result ℕ TakeError

-- the answer in document 01's numbers; the value is the length of the text
abbrev pub lines_answer : Lines → Answer
lines_answer (Ok n) = answer done (n ∷ [])
lines_answer (Err ShortOutput) = answer short_output []
lines_answer (Err Inconsistent) = answer inconsistent []

-- the text lies within the output: the kit's `IsPrefixLen`, so that a caller may lend its part
abbrev pub Within : Lines → List ℕ → Type 0
Within (Ok n) out = IsPrefixLen n out
Within (Err e) out = Unit {0}

-- the room for what may be stored before an input: two digits for each of the 259 stored bytes
abbrev pub stored_text : ℕ
stored_text = 2 * stored_size

-- the room asked for an input of so many bytes: two digits for each of them, and that
abbrev pub room_for : ℕ → ℕ
room_for size = 2 * size + stored_text

-- an output of `room` bytes has it
abbrev pub roomy : ℕ → ℕ → Bool
roomy size room = leb (room_for size) room

-- of an input, from a state, into an output of `room` bytes; 9 before 2
unfoldable pub list_answer : List ℕ → ℕ → Receiver → Answer
list_answer input room s =
    cond (consistent_of s)
    (cond (roomy (length input) room) (answer done (length (lines_of (heard s input)) ∷ [])) (answer short_output []))
    (answer inconsistent [])

-- the state after it: all bytes are fed; after 2 it is the one that went in, after 9 a fresh one
unfoldable pub state_after : List ℕ → ℕ → Receiver → Receiver
state_after input room s = cond (consistent_of s) (cond (roomy (length input) room) (run_of s input) s) fresh_of

-- the packets listed: all that the input hands out; a refusal lists none
unfoldable pub listed : List ℕ → ℕ → Receiver → List (List ℕ)
listed input room s = cond (consistent_of s && roomy (length input) room) (heard s input) []
