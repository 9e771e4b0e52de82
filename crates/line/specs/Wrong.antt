-- Wrong receivers and takers, those that document 01 names and some that a tired person writes. Demand 3, its converse or `AnyCutting` is false of
-- each, so these statements rule it out. The proofs: `proofs/Wrong.antt`. Assumes nothing.
use Rattle.std.specs.Prelude.{ℕ, ◌+◌, ◌-◌, ◌*◌, ◌≡◌, Bool, true, cond, ◌&&◌, ◌||◌, List, [], ◌∷◌, Some, Ok, eqb, get_or, length, take}
use Rattle.std.specs.Int.Bits.{bit_xor}
use Rattle.checks.specs.FrameCheck.{frame_check}
use Rattle.serial.specs.declared.receiver.Position.{Position}
use Rattle.serial.specs.declared.receiver.Position.TheVariants.{FrameSearch, SerialRevision, ByteCount, DataEscaped, Check, FrameEnd}
use Rattle.serial.specs.declared.receiver.Receiver.{Receiver}
use Rattle.framing.specs.Frame.{escape, escape_escaped, flag, flag_escaped, frame}
use Rattle.serial.specs.Receiver.{frame_end_row, fresh_of, move_to, position_number, quiet, step_of, stepped, store_data}
use Rattle.serial.specs.Run.{Step, packet_in}
use Rattle.serial.specs.Steps.{called}
use Rattle.serial.specs.Taker.{stop}
use Rattle.line.specs.Converse.{OnlyAsSentBy}
use Rattle.line.specs.Cutting.{AnyCuttingBy, Calling}
use Rattle.line.specs.Demand3.{HearsAfterBy, Places, placed}

-- as ours, but at position p, where it does what `other` says
abbrev differs_at : Position → Step → Step
differs_at p other b s = cond (eqb (position_number p) (position_number s.position)) (other b s) (step_of b s)

-- ---- any receiver of a kind

-- it hands out nothing, ever
abbrev HandsOutNothing : Step → Type 0
HandsOutNothing step = (b n : ℕ) (s : Receiver) → (step b s).outcome ≡ Ok (Some n) → ⊥

-- it is stuck in its first state
abbrev pub Stuck : Step → Type 0
Stuck step = (b : ℕ) → step b fresh_of ≡ quiet fresh_of

-- it hands out the same packet always
abbrev pub HandsOutOnly : List ℕ → Step → Type 0
HandsOutOnly packet step = (b n : ℕ) (s : Receiver) → (step b s).outcome ≡ Ok (Some n) → packet_in n (step b s).state ≡ packet

-- none of these hears the frames behind three flags
abbrev pub NeverHandsOutFails : Type 0
NeverHandsOutFails = (step : Step) → HandsOutNothing step → HearsAfterBy step placed 3 → ⊥

abbrev pub StuckFails : Type 0
StuckFails = (step : Step) → Stuck step → HearsAfterBy step placed 3 → ⊥

abbrev pub SamePacketFails : Type 0
SamePacketFails = (packet : List ℕ) (step : Step) → HandsOutOnly packet step → HearsAfterBy step placed 3 → ⊥

-- ---- a byte read as in another position

-- byte c in p is misread: it leads to q and is not stored
abbrev misread : ℕ → Position → Position → Step
misread c p q = differs_at p (λ b s. cond (eqb b c) (quiet (move_to q s)) (step_of b s))

-- a flag is looked for in ByteCount: a packet of 126 bytes is not heard
abbrev pub flag_in_count : Step
flag_in_count = misread flag ByteCount SerialRevision

abbrev pub FlagInCountFails : Type 0
FlagInCountFails = HearsAfterBy flag_in_count placed 3 → ⊥

-- a flag is looked for in Check: a packet whose check has the byte 7e is not heard
abbrev pub flag_in_check : Step
flag_in_check = misread flag Check SerialRevision

abbrev pub FlagInCheckFails : Type 0
FlagInCheckFails = HearsAfterBy flag_in_check placed 3 → ⊥

-- an escape is looked for in ByteCount and left out: a packet of 125 bytes is not heard
abbrev pub escape_in_count : Step
escape_in_count = misread escape ByteCount ByteCount

abbrev pub EscapeInCountFails : Type 0
EscapeInCountFails = HearsAfterBy escape_in_count placed 3 → ⊥

-- an escape is looked for in Check and left out: a packet whose check has the byte 7d is not heard
abbrev pub escape_in_check : Step
escape_in_check = misread escape Check Check

abbrev pub EscapeInCheckFails : Type 0
EscapeInCheckFails = HearsAfterBy escape_in_check placed 3 → ⊥

-- a flag behind a flag is taken for a bad revision: behind three flags the next one opens no frame
abbrev pub flags_paired : Step
flags_paired = misread flag SerialRevision FrameSearch

abbrev pub FlagsPairedFails : Type 0
FlagsPairedFails = HearsAfterBy flags_paired placed 3 → ⊥

-- ---- a bad escape pair

-- it is read as what `byte` makes of its second byte
abbrev reads_pair : (ℕ → ℕ) → Step
reads_pair byte =
    differs_at DataEscaped (λ b s. cond (eqb b flag_escaped || eqb b escape_escaped) (step_of b s) (quiet (store_data (byte b) s)))

-- 7d 41 is read as 41
abbrev pub lenient : Step
lenient = reads_pair (λ b. b)

abbrev pub LenientFails : Type 0
LenientFails = OnlyAsSentBy lenient → ⊥

-- 7d 41 is read as 61, with a bit flipped
abbrev pub flipped : Step
flipped = reads_pair (λ b. bit_xor b 0x20)

abbrev pub FlippedFails : Type 0
FlippedFails = OnlyAsSentBy flipped → ⊥

-- ---- another check

-- a flag in FrameEnd hands out the packet where another test passes
abbrev hands_out_by : (Receiver → Bool) → Step
hands_out_by passes =
    differs_at FrameEnd (λ b s. cond (eqb b flag && passes s) (stepped (Ok (Some s.count)) (frame_end_row b s)) (quiet (frame_end_row b s)))

-- the check of what is stored, and the two check bytes that are stored, in their order
abbrev check_of_stored : Receiver → ℕ
check_of_stored s = frame_check (take (s.count + 2) s.stored)

abbrev first_check : Receiver → ℕ
first_check s = get_or s.stored (s.count + 2) 0

abbrev second_check : Receiver → ℕ
second_check s = get_or s.stored (s.count + 3) 0

-- the check is not looked at
abbrev pub check_ignored : Step
check_ignored = hands_out_by (λ s. true)

abbrev pub CheckIgnoredFails : Type 0
CheckIgnoredFails = OnlyAsSentBy check_ignored → ⊥

-- it is taken low byte first
abbrev pub low_first : Step
low_first = hands_out_by (λ s. eqb (check_of_stored s) (second_check s * 256 + first_check s))

abbrev pub LowFirstFails : Type 0
LowFirstFails = HearsAfterBy low_first placed 3 → ⊥

-- it is taken for complemented
abbrev pub complemented : Step
complemented = hands_out_by (λ s. eqb (0xffff - check_of_stored s) (first_check s * 256 + second_check s))

abbrev pub ComplementedFails : Type 0
ComplementedFails = HearsAfterBy complemented placed 3 → ⊥

-- ---- places

-- each packet with the place before its frame's last byte
unfoldable pub early : Places
early i [] = []
early i (p ∷ ps) = (i + length (frame p) - 2, p) ∷ early (i + length (frame p)) ps

abbrev pub PlacedEarlyFails : Type 0
PlacedEarlyFails = HearsAfterBy step_of early 3 → ⊥

-- ---- takers

-- each call begins with a fresh receiver: a frame cut in two is lost
abbrev fresh_each : Calling
fresh_each c s stream = called c fresh_of stream

abbrev pub FreshEachCallFails : Type 0
FreshEachCallFails = AnyCuttingBy fresh_each → ⊥

-- a call counts one step too many
abbrev one_too_many : Calling
one_too_many c s stream = stop (called c s stream).reason ((called c s stream).taken + 1) (called c s stream).state

abbrev pub OneTooManyFails : Type 0
OneTooManyFails = AnyCuttingBy one_too_many → ⊥
