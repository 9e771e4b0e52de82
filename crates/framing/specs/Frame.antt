-- The serial frame of a packet, from DSP0253: flag, revision, count, the packet's bytes escaped, two check bytes, flag.
-- Assumes nothing.
use Rattle.std.specs.Prelude.{ℕ, ◌+◌, ◌/◌, ◌%◌, ◌≤◌, cond, ◌||◌, List, [], ◌∷◌, ◌++◌, eqb, length}
use Rattle.checks.specs.FrameCheck.{frame_check}
use Rattle.checks.specs.Laws.{Bytes}

-- the framing flag, which opens and closes a frame
abbrev pub flag : ℕ
flag = 0x7e

-- the escape, and what stands behind it for a flag and for an escape
abbrev pub escape : ℕ
escape = 0x7d

abbrev pub flag_escaped : ℕ
flag_escaped = 0x5e

abbrev pub escape_escaped : ℕ
escape_escaped = 0x5d

-- the serial protocol's revision
abbrev pub revision : ℕ
revision = 0x01

-- a byte of the packet as it stands on the line
unfoldable pub escaped : ℕ → List ℕ
escaped b =
    cond (eqb b flag) (escape ∷ flag_escaped ∷ []) (cond (eqb b escape) (escape ∷ escape_escaped ∷ []) (b ∷ []))

-- the packet as it stands on the line
unfoldable pub escaped_all : List ℕ → List ℕ
escaped_all [] = []
escaped_all (b ∷ bs) = escaped b ++ escaped_all bs

-- what the check covers: the revision, the count and the packet, not escaped
abbrev pub covered : List ℕ → List ℕ
covered packet = revision ∷ length packet ∷ packet

-- the two check bytes, the high one first
abbrev pub check_bytes : List ℕ → List ℕ
check_bytes packet = frame_check (covered packet) / 256 ∷ frame_check (covered packet) % 256 ∷ []

-- the frame behind its opening flag; count and check bytes are not escaped
abbrev pub behind_flag : List ℕ → List ℕ
behind_flag packet = revision ∷ length packet ∷ (escaped_all packet ++ (check_bytes packet ++ (flag ∷ [])))

-- the frame
unfoldable pub frame : List ℕ → List ℕ
frame packet = flag ∷ behind_flag packet

-- the frames of a list of packets, one behind the other
unfoldable pub frames : List (List ℕ) → List ℕ
frames [] = []
frames (p ∷ ps) = frame p ++ frames ps

-- 1 for a byte that is escaped, else 0
abbrev pub escapes_of : ℕ → ℕ
escapes_of b = cond (eqb b flag || eqb b escape) 1 0

-- how many of the packet's bytes are escaped
unfoldable pub escapes : List ℕ → ℕ
escapes [] = 0
escapes (b ∷ bs) = escapes_of b + escapes bs

-- how many bytes a packet that is sent has at least, and at most
abbrev pub packet_least : ℕ
packet_least = 5

abbrev pub packet_most : ℕ
packet_most = 255

-- a packet that is sent
abbrev pub Sendable : List ℕ → Type 0
Sendable packet = Bytes packet × (packet_least ≤ length packet) × (length packet ≤ packet_most)

-- packets that are all sent
abbrev pub AllSendable : List (List ℕ) → Type 0
AllSendable [] = Unit {0}
AllSendable (p ∷ ps) = Sendable p × AllSendable ps
