-- Wrong walkers and builders: each gives something else than the definitions that the contracts cite, at a transfer or a packet that is named here or in the
-- proof, so the contract refuses it. The proofs: `proofs/Wrong.antt`. Assumes nothing.
use Rattle.std.specs.Prelude.{ℕ, ◌+◌, ◌≤◌, ◌≡◌, cond, not, List, [], ◌≢◌, length}
use Rattle.std.specs.Borrow.{Bor}
use Rattle.checks.specs.Numbers.{Answer, answer, done}
use Rattle.usb.specs.Header.{header_size, sendable}
use Rattle.usb.specs.Numbers.{bad_packet, no_room}
use Rattle.transfer.specs.Builder.{append_answer, fits, used_after}
use Rattle.transfer.specs.Computed.{two}
use Rattle.transfer.specs.Walk.{Starts, Yielded, Yields, place_after, walk_answer, walked_answer, walked_of, walker_at}

-- ---- the walker

-- it says end behind the first packet: of two, the second is at place 6
abbrev pub NotEndAfterFirst : Type 0
NotEndAfterFirst = walk_answer two 6 ≢ answer done []

-- its place never moves on, so that each answer is the first packet again
abbrev pub NotUnmoved : Type 0
NotUnmoved = place_after two 0 ≢ 0

-- a transfer's address without its bytes
abbrev emptied : Bor (List ℕ) → Bor (List ℕ)
emptied transfer = record { ref_ptr = transfer.ref_ptr; now = [] }

-- a new walker that holds no bytes, of any transfer that has one
abbrev pub NotEmptied : Type 0
NotEmptied = (transfer : Bor (List ℕ)) → 1 ≤ length transfer.now → Starts transfer (walker_at (emptied transfer) 0) → ⊥

-- `next` answers as at the transfer's start, wherever the walker stands
abbrev pub NotFromStart : Type 0
NotFromStart = (transfer : Bor (List ℕ)) (y : Yielded) → transfer.now ≡ two
    → walked_answer (walked_of y.item) ≡ walk_answer two 0 → Yields (walker_at transfer 6) y → ⊥

-- it leaves the walker standing where it stood
abbrev pub NotStanding : Type 0
NotStanding = (transfer : Bor (List ℕ)) (y : Yielded) → transfer.now ≡ two
    → y.walker ≡ walker_at transfer 0 → Yields (walker_at transfer 0) y → ⊥

-- ---- the builder

-- it looks at the room first, so that number 8 comes before number 6
abbrev room_first : ℕ → ℕ → ℕ → Answer
room_first size used room =
    cond (not (fits size used room)) (answer no_room [])
    (cond (not (sendable size)) (answer bad_packet [])
    (answer done []))

-- what it answers is not that
abbrev pub NotRoomFirst : Type 0
NotRoomFirst = ((size used room : ℕ) → append_answer size used room ≡ room_first size used room) → ⊥

-- it moves the used count where there is no room
abbrev counted_anyway : ℕ → ℕ → ℕ → ℕ
counted_anyway size used room = cond (sendable size) (used + (size + header_size)) used

-- nor is that its count
abbrev pub NotCountedAnyway : Type 0
NotCountedAnyway = ((size used room : ℕ) → used_after size used room ≡ counted_anyway size used room) → ⊥
