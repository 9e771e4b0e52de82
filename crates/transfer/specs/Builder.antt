-- What the builder answers, and what it leaves: the used count and the output (document 01, 'USB' and 'Numbers given back', with its order).
-- Assumes nothing.
use Rattle.std.specs.Prelude.{ℕ, ◌+◌, ◌-◌, Bool, cond, not, ◌&&◌, List, [], Result, Ok, Err, ⊤, eqb, leb, length}
use Rattle.checks.specs.Numbers.{Answer, answer, done}
use Rattle.checks.specs.Output.{put_at}
use Rattle.usb.specs.Header.{framed, header_size, sendable}
use Rattle.usb.specs.Numbers.{bad_packet, no_room}
use Rattle.transfer.specs.declared.builder.AppendError.{AppendError}
use Rattle.transfer.specs.declared.builder.AppendError.TheVariants.{BadPacket, NoRoom}

-- the number of a refusal
abbrev pub append_error_number : AppendError → ℕ
append_error_number BadPacket = bad_packet
append_error_number NoRoom = no_room

-- the answer in document 01's numbers
abbrev pub appended_answer : Result ⊤ AppendError → Answer
appended_answer (Ok _) = answer done []
appended_answer (Err refused) = answer (append_error_number refused) []

-- the most bytes of a transfer
abbrev pub transfer_most : ℕ
transfer_most = 512

-- the smaller of a buffer's length and that
abbrev pub limit : ℕ → ℕ
limit room = cond (leb room transfer_most) room transfer_most

-- below it there is room for header and packet behind the used bytes
abbrev pub fits : ℕ → ℕ → ℕ → Bool
fits size used room = leb used (limit room) && leb (size + header_size) (limit room - used)

-- of a packet of this size, with `used` bytes of a buffer of `room` bytes used: a packet over 251 bytes; no room
unfoldable pub append_answer : ℕ → ℕ → ℕ → Answer
append_answer size used room =
    cond (not (sendable size)) (answer bad_packet [])
    (cond (not (fits size used room)) (answer no_room [])
    (answer done []))

-- a packet that is taken: it is not refused
abbrev pub takes : ℕ → ℕ → ℕ → Bool
takes size used room = eqb (append_answer size used room).number done

-- the used count after it
unfoldable pub used_after : ℕ → ℕ → ℕ → ℕ
used_after size used room = cond (takes size used room) (used + (size + header_size)) used

-- the output after it
unfoldable pub append_output : List ℕ → ℕ → List ℕ → List ℕ
append_output packet used out = cond (takes (length packet) used (length out)) (put_at used (framed packet) out) out
