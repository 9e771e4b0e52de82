-- What is proved of the text (`proofs/TextLaws.antt`, `proofs/Room.antt`) and of calls of `list` in turn (`proofs/Pieces.antt`). Assumes nothing.
use Rattle.std.specs.Prelude.{ℕ, ◌+◌, ◌≤◌, ◌≡◌, true, List, [], ◌∷◌, ◌++◌, length}
use Rattle.checks.specs.Laws.{Bytes}
use Rattle.serial.specs.declared.receiver.Receiver.{Receiver}
use Rattle.serial.specs.Consistency.{Consistent}
use Rattle.line.specs.Demand3.{flags}
use Rattle.framing.specs.Frame.{AllSendable, frames}
use Rattle.serial.specs.Receiver.{fresh_of}
use Rattle.listing.specs.Closing.{closing_line, output_for}
use Rattle.listing.specs.Listing.{listed, room_for, roomy, state_after}
use Rattle.serial.specs.Run.{heard}
use Rattle.listing.specs.Text.{lines_of}

-- each of some lists is bytes
abbrev AllBytes : List (List ℕ) → Type 0
AllBytes [] = Unit {0}
AllBytes (p ∷ ps) = Bytes p × AllBytes ps

-- the text tells the packets: no two lists of packets have the same
abbrev pub TextTells : Type 0
TextTells = (ps qs : List (List ℕ)) → AllBytes ps → AllBytes qs → lines_of ps ≡ lines_of qs → ps ≡ qs

-- the room that is asked is enough
abbrev pub TextFits : Type 0
TextFits = (s : Receiver) (input : List ℕ) → Consistent s → Bytes input → length (lines_of (heard s input)) ≤ room_for (length input)

-- ---- an input in pieces, as a program reads it

unfoldable pub joined : List (List ℕ) → List ℕ
joined [] = []
joined (p ∷ ps) = p ++ joined ps

-- the text that calls write, one for each piece, each from the state that the last one left and into an output of `room` bytes
unfoldable pub written_by : ℕ → Receiver → List (List ℕ) → List ℕ
written_by room s [] = []
written_by room s (p ∷ ps) = lines_of (listed p room s) ++ written_by room (state_after p room s) ps

-- and the packets that they count
unfoldable pub counted_by : ℕ → Receiver → List (List ℕ) → ℕ
counted_by room s [] = 0
counted_by room s (p ∷ ps) = length (listed p room s) + counted_by room (state_after p room s) ps

-- each piece has the room that it asks
abbrev AllRoomy : ℕ → List (List ℕ) → Type 0
AllRoomy room [] = Unit {0}
AllRoomy room (p ∷ ps) = (roomy (length p) room ≡ true) × AllRoomy room ps

-- wherever the input was cut, they write the lines of the packets that it hands out in one pass, and count these
abbrev pub AnyReads : Type 0
AnyReads = (room : ℕ) (s : Receiver) (ps : List (List ℕ)) → Consistent s → AllBytes ps → AllRoomy room ps
    → (written_by room s ps ≡ lines_of (heard s (joined ps))) × (counted_by room s ps ≡ length (heard s (joined ps)))

-- so from a fresh receiver, with the closing line behind it, it is what document 01 says of the whole input
abbrev pub ReadsWriteAll : Type 0
ReadsWriteAll = (room : ℕ) (ps : List (List ℕ)) → AllBytes ps → AllRoomy room ps
    → written_by room fresh_of ps ++ closing_line (length (joined ps)) (counted_by room fresh_of ps) ≡ output_for (joined ps)

-- demand 3 as it is read in a listing: behind any bytes and three flags stand the lines of the frames' packets, and nothing else
abbrev pub ThreeFlagsListed : Type 0
ThreeFlagsListed = (h : List ℕ) → Bytes h → (ps : List (List ℕ)) → AllSendable ps
    → lines_of (heard fresh_of (h ++ flags 3 ++ frames ps)) ≡ lines_of (heard fresh_of (h ++ flags 3)) ++ lines_of ps
