-- A receiver's state in a lent buffer: its bytes, and the state that bytes hold. The layout is the port's own; `include/pulevago.h` names the size.
-- Assumes nothing.
use Rattle.std.specs.Prelude.{ℕ, ◌+◌, ◌*◌, ◌/◌, ◌%◌, Bool, cond, ◌&&◌, ◌||◌, List, ◌∷◌, eqb, ltb, length, drop, get_or, set}
use Rattle.framing.specs.Frame.{packet_most}
use Rattle.serial.specs.declared.receiver.Position.TheVariants.{FrameEnd}
use Rattle.serial.specs.declared.receiver.Receiver.{Receiver}
use Rattle.serial.specs.Receiver.{changed, fresh_of, move_to, position_number, positions, stored_size}

-- ---- sizes and places

-- the place at which the stored bytes begin
abbrev pub stored_at : ℕ
stored_at = 4

-- a state's size
abbrev pub state_size : ℕ
state_size = stored_at + stored_size

-- a buffer of a state's size
abbrev pub sized : List ℕ → Bool
sized bytes = eqb (length bytes) state_size

-- ---- positions

-- the first number that is no position's
abbrev pub no_position : ℕ
no_position = 7

-- ---- from the state to its bytes

-- a state's bytes: the position's number, the count, the stored length in two bytes, the high one first, and the stored bytes
abbrev pub state_bytes : Receiver → List ℕ
state_bytes s = position_number s.position ∷ s.count ∷ (s.len / 256) ∷ (s.len % 256) ∷ s.stored

-- a state whose count or length is more than any consistent one's
abbrev pub too_large : Receiver → Bool
too_large s = ltb packet_most s.count || ltb stored_size s.len

-- a buffer after a state was stored in it; one of another size is left as it is. A state that is too large for its bytes is not consistent: the first byte
-- is then no position's number, so that the buffer holds none
unfoldable pub left : List ℕ → Receiver → List ℕ
left bytes s = cond (sized bytes) (cond (too_large s) (set bytes 0 no_position) (state_bytes s)) bytes

-- ---- and back

-- what is loaded where no state is held: it is not consistent, in FrameEnd without a count
abbrev pub no_state : Receiver
no_state = move_to FrameEnd fresh_of

-- the state whose bytes these are
abbrev pub state_of : List ℕ → Receiver
state_of bytes =
    changed (get_or positions (get_or bytes 0 0) FrameEnd) (get_or bytes 1 0) (get_or bytes 2 0 * 256 + get_or bytes 3 0) (drop stored_at bytes) fresh_of

-- the state that a buffer holds: one of a state's size, whose first byte is a position's number, holds one
unfoldable pub loaded : List ℕ → Receiver
loaded bytes = cond (sized bytes && ltb (get_or bytes 0 0) no_position) (state_of bytes) no_state
