-- What is proved of the walker over whole transfers (`proofs/Transfers.antt`), and of walker and builder together (`proofs/Offered.antt`).
-- Assumes nothing.
use Rattle.std.specs.Prelude.{ℕ, ◌+◌, ◌≤◌, ◌<◌, ◌/◌, ◌≡◌, cond, ◌⊎◌, List, [], ◌∷◌, ◌++◌, length, take}
use Rattle.checks.specs.Numbers.{answer, done}
use Rattle.checks.specs.Part.{Inside}
use Rattle.usb.specs.Header.{framed, header_size, header_with}
use Rattle.usb.specs.Numbers.{rx_failure}
use Rattle.transfer.specs.Builder.{append_output, takes, used_after}
use Rattle.transfer.specs.Walk.{Walk, found_part, place_after, stopped, walk, walk_answer, whole_walk}

-- ---- a walk over any transfer

-- what is found at a place lies within the transfer
abbrev pub FoundInside : Type 0
FoundInside = (transfer : List ℕ) (place : ℕ) → Inside (found_part transfer place) (length transfer)

-- packets with their headers, joined, whatever each third byte is
pub data Joined : List (List ℕ) → List ℕ → Type 0 where
  none : Joined [] []
  one_more : (third : ℕ) (packet : List ℕ) (packets : List (List ℕ)) (bytes : List ℕ) → Joined packets bytes
      → Joined (packet ∷ packets) (header_with third (length packet) ++ (packet ++ bytes))

-- a walk that yields these packets and then says end, at this place
abbrev pub to_end : List (List ℕ) → ℕ → Walk
to_end ps place = stopped ps place (answer done [])

-- it ends: after at most one packet for each four bytes an answer yields nothing
abbrev pub WalkEnds : Type 0
WalkEnds = (transfer : List ℕ) → (whole_walk transfer).last.values ≡ []

-- one for each five bytes would not do
abbrev pub FiveTooFew : Type 0
FiveTooFew = ((transfer : List ℕ) → (walk (length transfer / 5) transfer 0).last.values ≡ []) → ⊥

-- and then each later answer is the same, and nothing more is yielded
abbrev pub WalkStays : Type 0
WalkStays = (transfer : List ℕ) (k : ℕ) → walk (length transfer / header_size + k) transfer 0 ≡ whole_walk transfer

-- an answer that yields nothing is end or 7
abbrev pub EndOrSeven : Type 0
EndOrSeven = (transfer : List ℕ) (place : ℕ) → (walk_answer transfer place).values ≡ []
    → (walk_answer transfer place ≡ answer done []) ⊎ (walk_answer transfer place ≡ answer rx_failure [])

-- and the place stays
abbrev pub PlaceStays : Type 0
PlaceStays = (transfer : List ℕ) (place : ℕ) → (walk_answer transfer place).values ≡ [] → place_after transfer place ≡ place

-- so it does beyond the transfer, where the answer is 7
abbrev pub PlaceBeyond : Type 0
PlaceBeyond = (transfer : List ℕ) (place : ℕ) → length transfer < place
    → (walk_answer transfer place ≡ answer rx_failure []) × (place_after transfer place ≡ place)

-- its packets with their headers, joined, are the transfer up to the place where it stopped
abbrev pub WalkJoined : Type 0
WalkJoined = (transfer : List ℕ) → ((whole_walk transfer).place ≤ length transfer)
    × Joined (whole_walk transfer).packets (take (whole_walk transfer).place transfer)

-- and where the last answer is end, they are the whole transfer
abbrev pub EndIsWhole : Type 0
EndIsWhole = (transfer : List ℕ) → (whole_walk transfer).last ≡ answer done [] → (whole_walk transfer).place ≡ length transfer

-- the converse: packets with their headers, joined, are yielded, each of them and in order, and then the walk says end
abbrev pub JoinedWalked : Type 0
JoinedWalked = (ps : List (List ℕ)) (transfer : List ℕ) → Joined ps transfer → whole_walk transfer ≡ to_end ps (length transfer)

-- ---- a walk over what the builder made

-- after packets were offered to the builder: the output, the used count, and the packets that it took
pub record Building : Type 0 where
  pub out : List ℕ
  pub used : ℕ
  pub taken : List (List ℕ)

-- the packet where it is taken, else none
abbrev taken_of : List ℕ → ℕ → ℕ → List (List ℕ)
taken_of packet used room = cond (takes (length packet) used room) (packet ∷ []) []

-- each in turn, from this output and this count on
unfoldable pub offered : List ℕ → ℕ → List (List ℕ) → Building
offered out used [] = record { out = out; used = used; taken = [] }
offered out used (p ∷ ps) =
    let rest = offered (append_output p used out) (used_after (length p) used (length out)) ps in
    record { out = rest.out; used = rest.used; taken = taken_of p used (length out) ++ rest.taken }

-- the used bytes of what was built
abbrev pub used_bytes : Building → List ℕ
used_bytes b = take b.used b.out

-- packets behind their headers, joined
unfoldable pub transfer_of : List (List ℕ) → List ℕ
transfer_of [] = []
transfer_of (p ∷ ps) = framed p ++ transfer_of ps

-- from a count of 0, the used bytes are the packets that were taken, each behind its header
abbrev pub BuiltBytes : Type 0
BuiltBytes = (out : List ℕ) (ps : List (List ℕ)) → used_bytes (offered out 0 ps) ≡ transfer_of (offered out 0 ps).taken

-- and a walk over them yields exactly the packets that were taken, in order, and then says end
abbrev pub BuiltWalked : Type 0
BuiltWalked = (out : List ℕ) (ps : List (List ℕ))
    → whole_walk (used_bytes (offered out 0 ps)) ≡ to_end (offered out 0 ps).taken (offered out 0 ps).used
