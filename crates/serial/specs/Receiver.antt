-- The serial receiver: document 01's table, row by row, and what makes a state consistent. The state is the code's own struct.
-- Assumes nothing.
use Rattle.std.specs.Prelude.{ℕ, ◌+◌, ◌*◌, ◌<◌, ◌≤◌, ◌≡◌, Bool, true, cond, ◌&&◌, ◌||◌, List, [], ◌∷◌, Option, Some, None, Result, Ok, Err, MatchResult, eqb, leb, get_or, set, replicate, slice_get, take}
use Rattle.checks.specs.FrameCheck.{frame_check}
use Rattle.serial.specs.declared.receiver.Position.{Position}
use Rattle.serial.specs.declared.receiver.Position.TheVariants.{FrameSearch, SerialRevision, ByteCount, Data, DataEscaped, Check, FrameEnd}
use Rattle.serial.specs.declared.receiver.Receiver.{Receiver}
use Rattle.serial.specs.declared.receiver.Inconsistent.{Inconsistent}
use Rattle.serial.specs.declared.receiver.Stepped.{Stepped}
use Rattle.serial.specs.declared.receiver.UnknownPosition.{UnknownPosition}
use Rattle.framing.specs.Frame.{escape, escape_escaped, flag, flag_escaped, packet_most, revision}

-- ---- positions

-- a position's number: its place in document 01's table
abbrev pub position_number : Position → ℕ
position_number FrameSearch = 0
position_number SerialRevision = 1
position_number ByteCount = 2
position_number Data = 3
position_number DataEscaped = 4
position_number Check = 5
position_number FrameEnd = 6

-- the positions by their numbers
abbrev pub positions : List Position
positions = FrameSearch ∷ SerialRevision ∷ ByteCount ∷ Data ∷ DataEscaped ∷ Check ∷ FrameEnd ∷ []

-- a byte is a position's number
abbrev pub IsPositionNumber : Position → ℕ → Type 0
IsPositionNumber p n = n ≡ position_number p

-- what is read of a number: the position that has it, or the number itself where none has
abbrev pub IsPositionOf : ℕ → Result Position UnknownPosition → Type 0
IsPositionOf n r = MatchResult r (λ p. slice_get positions n ≡ Some p) (λ e. (e.0 ≡ n) × (slice_get positions n ≡ None))

-- ---- states

-- the stored bytes: revision, count, a packet of at most 255 bytes and its two check bytes
abbrev pub stored_size : ℕ
stored_size = 259

-- all zero, in FrameSearch
abbrev pub fresh_of : Receiver
fresh_of = record { position = FrameSearch; count = 0; len = 0; stored = replicate stored_size 0 }

-- a state with these four; whatever else it has stays
abbrev pub changed : Position → ℕ → ℕ → List ℕ → Receiver → Receiver
changed p n l stored s = record { position = p; count = n; len = l; stored = stored }

-- the same content at another position
abbrev pub move_to : Position → Receiver → Receiver
move_to p s = changed p s.count s.len s.stored s

-- one byte more is stored
abbrev pub store : ℕ → Receiver → Receiver
store b s = changed s.position s.count (s.len + 1) (set s.stored s.len b) s

-- one byte more is stored, and then the position is `full` once the stored length is the count and `more`, until then `short`
abbrev pub store_until : ℕ → Position → Position → ℕ → Receiver → Receiver
store_until more full short b s = move_to (cond (eqb (s.len + 1) (s.count + more)) full short) (store b s)

-- a packet's byte is stored; Check once the count is reached
abbrev pub store_data : ℕ → Receiver → Receiver
store_data b s = store_until 2 Check Data b s

-- with b as the first stored byte, and no count
abbrev pub begun : ℕ → Position → Receiver → Receiver
begun b p s = changed p 0 1 (set s.stored 0 b) s

-- with another count
abbrev pub with_count : ℕ → Receiver → Receiver
with_count n s = changed s.position n s.len s.stored s

-- room for one byte more, and a count that a packet can have
pub record HasRoom (s : Receiver) : Type 0 where
  pub len_below : s.len < stored_size
  pub count_most : s.count ≤ packet_most

-- ---- the table: the state that a byte leads to from each position

abbrev pub frame_search_row : ℕ → Receiver → Receiver
frame_search_row b s = move_to (cond (eqb b flag) SerialRevision FrameSearch) s

abbrev pub serial_revision_row : ℕ → Receiver → Receiver
serial_revision_row b s = begun b (cond (eqb b revision) ByteCount (cond (eqb b flag) SerialRevision FrameSearch)) s

abbrev pub byte_count_row : ℕ → Receiver → Receiver
byte_count_row b s = cond (eqb b 0) (move_to FrameSearch (with_count 0 s)) (move_to Data (with_count b (store b s)))

abbrev pub data_row : ℕ → Receiver → Receiver
data_row b s =
    cond (eqb b flag) (move_to SerialRevision s) (cond (eqb b escape) (move_to DataEscaped s) (store_data b s))

abbrev pub data_escaped_row : ℕ → Receiver → Receiver
data_escaped_row b s =
    cond (eqb b flag_escaped) (store_data flag s)
    (cond (eqb b escape_escaped) (store_data escape s) (move_to FrameSearch s))

abbrev pub check_row : ℕ → Receiver → Receiver
check_row b s = store_until 4 FrameEnd Check b s

abbrev pub frame_end_row : ℕ → Receiver → Receiver
frame_end_row b s = move_to (cond (eqb b flag) FrameSearch SerialRevision) s

-- ---- what is handed out

-- the two stored check bytes, the high one first, are the check of the revision, the count and the packet before them
unfoldable pub agrees_of : Receiver → Bool
agrees_of s =
    eqb (frame_check (take (s.count + 2) s.stored)) (get_or s.stored (s.count + 2) 0 * 256 + get_or s.stored (s.count + 3) 0)

-- what a step gives: nothing, a packet of so many bytes, or number 9
abbrev pub Outcome : Type 0
Outcome = Result (Option ℕ) Inconsistent

-- it gives this, and leaves this state
abbrev pub stepped : Outcome → Receiver → Stepped
stepped o s = record { outcome = o; state = s }

-- nothing is handed out
abbrev pub quiet : Receiver → Stepped
quiet s = stepped (Ok None) s

-- a flag in FrameEnd hands out the packet where the check agrees
abbrev pub hands_out : ℕ → Receiver → Bool
hands_out b s = eqb b flag && agrees_of s

abbrev pub at_frame_end : ℕ → Receiver → Stepped
at_frame_end b s =
    cond (hands_out b s) (stepped (Ok (Some s.count)) (frame_end_row b s)) (quiet (frame_end_row b s))

-- the table's row for a position
unfoldable pub row_of : Position → ℕ → Receiver → Stepped
row_of FrameSearch b s = quiet (frame_search_row b s)
row_of SerialRevision b s = quiet (serial_revision_row b s)
row_of ByteCount b s = quiet (byte_count_row b s)
row_of Data b s = quiet (data_row b s)
row_of DataEscaped b s = quiet (data_escaped_row b s)
row_of Check b s = quiet (check_row b s)
row_of FrameEnd b s = at_frame_end b s

-- ---- consistent

-- from Data on: a count, the stored revision and the stored count
abbrev pub counted : Receiver → Bool
counted s = leb 1 s.count && (eqb (get_or s.stored 0 0) revision && eqb (get_or s.stored 1 0) s.count)

-- within the packet: the stored length lies from 2 to count + 1
abbrev pub in_packet : Receiver → Bool
in_packet s = leb 2 s.len && leb s.len (s.count + 1)

unfoldable pub fits_at : Position → Receiver → Bool
fits_at FrameSearch s = true
fits_at SerialRevision s = true
fits_at ByteCount s = eqb s.len 1 && eqb (get_or s.stored 0 0) revision
fits_at Data s = counted s && in_packet s
fits_at DataEscaped s = counted s && in_packet s
fits_at Check s = counted s && (eqb s.len (s.count + 2) || eqb s.len (s.count + 3))
fits_at FrameEnd s = counted s && eqb s.len (s.count + 4)

unfoldable pub consistent_of : Receiver → Bool
consistent_of s = leb s.len stored_size && (leb s.count packet_most && fits_at s.position s)

-- ---- a step: by the table where the state is consistent; else number 9 and a fresh state, whatever the byte

unfoldable pub step_of : ℕ → Receiver → Stepped
step_of b s = cond (consistent_of s) (row_of s.position b s) (stepped (Err record {}) fresh_of)
