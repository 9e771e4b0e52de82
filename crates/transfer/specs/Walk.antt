-- The walker: what it answers at a place of a transfer, what it yields and where it goes (document 01, 'USB'), and a walk of several answers.
-- Assumes nothing.
use Rattle.std.specs.Prelude.{ℕ, zero, suc, ◌+◌, ◌/◌, ◌≡◌, cond, List, [], ◌∷◌, ◌++◌, Option, Some, None, Result, Ok, Err, ⊤, eqb, ltb, length, drop}
use Rattle.std.specs.Borrow.{Bor}
use Rattle.checks.specs.Numbers.{Answer, answer, done}
use Rattle.checks.specs.Part.{IsPart, Part, bytes_of}
use Rattle.usb.specs.declared.decoder.DecodeError.{DecodeError}
use Rattle.usb.specs.Decode.{decode_answer, decode_error_number, packet_at}
use Rattle.usb.specs.Header.{header_size}
use Rattle.usb.specs.Numbers.{rx_failure}
use Rattle.transfer.specs.declared.walker.Walker.{Walker}

-- the answer in document 01's numbers; the value is the packet's length, and the end has none
abbrev pub walked_answer : Result (Option ℕ) DecodeError → Answer
walked_answer (Ok (Some n)) = answer done (n ∷ [])
walked_answer (Ok None) = answer done []
walked_answer (Err refused) = answer (decode_error_number refused) []

-- a place beyond the transfer; its end; else what decode says from there on
unfoldable pub walk_answer : List ℕ → ℕ → Answer
walk_answer transfer place =
    cond (ltb (length transfer) place) (answer rx_failure [])
    (cond (eqb place (length transfer)) (answer done [])
    (decode_answer (drop place transfer)))

-- the packet, as a part of the transfer
abbrev pub found_part : List ℕ → ℕ → Part
found_part transfer place = packet_at place (walk_answer transfer place).values

-- the place behind a packet of the length that an answer's values give; without one the place stays
abbrev pub place_behind : ℕ → List ℕ → ℕ
place_behind place [] = place
place_behind place (n ∷ ns) = place + (header_size + n)

-- the place after an answer
abbrev pub place_after : List ℕ → ℕ → ℕ
place_after transfer place = place_behind place (walk_answer transfer place).values

-- a walker over a transfer at a place
abbrev pub walker_at : Bor (List ℕ) → ℕ → Walker
walker_at transfer place = record { transfer = transfer; place = place }

-- what `new` hands back: a walker at the start
abbrev pub Starts : Bor (List ℕ) → Walker → Type 0
Starts transfer w = w ≡ walker_at transfer 0

-- what a call of `next` gives: a packet, a refusal, or at the end nothing
abbrev pub Item : Type 0
Item = Option (Result (Bor (List ℕ)) DecodeError)

-- and the walker behind it
pub record Yielded : Type 0 where
  pub item : Item
  pub walker : Walker

-- made of the two
abbrev pub yielded_as : Item → Walker → Yielded
yielded_as item w = record { item = item; walker = w }

-- what it answers, as `walk_at` does
abbrev pub walked_of : Item → Result (Option ℕ) DecodeError
walked_of (Some (Ok packet)) = Ok (Some (length packet.now))
walked_of (Some (Err refused)) = Err refused
walked_of None = Ok None

-- its packet, where there is one, is this part of the transfer
abbrev pub HandsPart : Item → Bor (List ℕ) → Part → Type 0
HandsPart (Some (Ok packet)) transfer p = IsPart packet transfer p
HandsPart (Some (Err refused)) transfer p = ⊤
HandsPart None transfer p = ⊤

-- what a call of `next` gives and leaves: the answer, the packet, and the walker behind it
abbrev pub Yields : Walker → Yielded → Type 0
Yields w y = (walked_answer (walked_of y.item) ≡ walk_answer w.transfer.now w.place)
    × HandsPart y.item w.transfer (found_part w.transfer.now w.place)
    × (y.walker ≡ walker_at w.transfer (place_after w.transfer.now w.place))

-- ---- the two leave no choice. The proofs: `proofs/OneWalk.antt`

-- `new` hands back one walker
abbrev pub OneStart : Type 0
OneStart = (transfer : Bor (List ℕ)) (x y : Walker) → Starts transfer x → Starts transfer y → x ≡ y

-- what is read off an item: of a packet its bytes and where they lie
abbrev pub seen : Item → Option (Result (List ℕ × (ℕ × ℕ)) DecodeError)
seen (Some (Ok packet)) = Some (Ok (packet.now, packet.ref_ptr))
seen (Some (Err refused)) = Some (Err refused)
seen None = None

-- any two results of `next` have the same answer, packets of the same bytes at the same place (docs/UNFIXED.md says what is left), and the same walker
abbrev pub OneYield : Type 0
OneYield = (w : Walker) (x y : Yielded) → Yields w x → Yields w y
    → (walked_of x.item ≡ walked_of y.item) × (seen x.item ≡ seen y.item) × (x.walker ≡ y.walker)

-- ---- several answers, one after the other

-- the packets that were yielded, the place that was reached, and the answer there
pub record Walk : Type 0 where
  pub packets : List (List ℕ)
  pub place : ℕ
  pub last : Answer

-- a walk that has yielded these packets and stopped at this place, with this answer
abbrev pub stopped : List (List ℕ) → ℕ → Answer → Walk
stopped packets place last = record { packets = packets; place = place; last = last }

-- the part's bytes where the values of an answer have a length, else none
abbrev pub yielded_by : List ℕ → Part → List ℕ → List (List ℕ)
yielded_by transfer p [] = []
yielded_by transfer p (n ∷ ns) = bytes_of p transfer ∷ []

-- the packet that a place yields, or none
abbrev pub yielded : List ℕ → ℕ → List (List ℕ)
yielded transfer place = yielded_by transfer (found_part transfer place) (walk_answer transfer place).values

-- k answers from a place on, and then one more, which is the last
unfoldable pub walk : ℕ → List ℕ → ℕ → Walk
walk zero transfer place = stopped [] place (walk_answer transfer place)
walk (suc k) transfer place =
    let rest = walk k transfer (place_after transfer place) in
    stopped (yielded transfer place ++ rest.packets) rest.place rest.last

-- one for each four bytes, as many as a header has
abbrev pub whole_walk : List ℕ → Walk
whole_walk transfer = walk (length transfer / header_size) transfer 0

-- ---- calls of `next`, and such a walk. The proof: `proofs/Turns.antt`

-- each on the walker that the one before left
abbrev InTurn : Walker → List Yielded → Type 0
InTurn w [] = Unit {0}
InTurn w (y ∷ ys) = Yields w y × InTurn y.walker ys

-- the packet of an item
abbrev pub handed : Item → List (List ℕ)
handed (Some (Ok packet)) = packet.now ∷ []
handed (Some (Err refused)) = []
handed None = []

-- the packets of several
unfoldable pub handed_all : List Yielded → List (List ℕ)
handed_all [] = []
handed_all (y ∷ ys) = handed y.item ++ handed_all ys

-- the walker that the last of them left
unfoldable pub last_of : Walker → List Yielded → Walker
last_of w [] = w
last_of w (y ∷ ys) = last_of y.walker ys

-- calls in turn are a walk of as many answers: they yield its packets, and the next one is made where it stopped
abbrev pub CallsWalk : Type 0
CallsWalk = (w : Walker) (ys : List Yielded) → InTurn w ys
    → (handed_all ys ≡ (walk (length ys) w.transfer.now w.place).packets)
    × (last_of w ys ≡ walker_at w.transfer (walk (length ys) w.transfer.now w.place).place)
