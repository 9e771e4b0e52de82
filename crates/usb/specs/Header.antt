-- The header of DSP0283 1.0.1 before a packet, and what `header` answers and leaves (document 01, 'USB' and 'Numbers given back'). Assumes nothing.
use Rattle.std.specs.Prelude.{ℕ, ◌+◌, Bool, cond, ◌&&◌, List, [], ◌∷◌, ◌++◌, Result, Ok, Err, ⊤, eqb, leb, length}
use Rattle.checks.specs.Numbers.{Answer, answer, done}
use Rattle.usb.specs.declared.head.HeaderError.{HeaderError}
use Rattle.usb.specs.declared.head.HeaderError.TheVariants.{BadPacket}
use Rattle.usb.specs.Numbers.{bad_packet}

-- the DMTF's two identifying bytes
abbrev pub first_byte : ℕ
first_byte = 0x1a

abbrev pub second_byte : ℕ
second_byte = 0xb4

-- the bytes of a header: these two, a reserved one and the length byte
abbrev pub header_size : ℕ
header_size = 4

-- the most bytes of a packet: with the header before them they fit in the length byte
abbrev pub packet_most : ℕ
packet_most = 251

-- a header with any third byte; the length byte counts header and packet
abbrev pub header_with : ℕ → ℕ → List ℕ
header_with third size = first_byte ∷ second_byte ∷ third ∷ (size + header_size) ∷ []

-- the header that is sent before a packet of this size: the third byte, which is reserved, is 0
abbrev pub header_of : ℕ → List ℕ
header_of size = header_with 0x00 size

-- a packet behind its header
abbrev pub framed : List ℕ → List ℕ
framed packet = header_of (length packet) ++ packet

-- a packet whose length with the header fits in the length byte
abbrev pub sendable : ℕ → Bool
sendable size = leb size packet_most

-- the number of a refusal
abbrev pub header_error_number : HeaderError → ℕ
header_error_number BadPacket = bad_packet

-- the answer in document 01's numbers
abbrev pub headed_answer : Result ⊤ HeaderError → Answer
headed_answer (Ok _) = answer done []
headed_answer (Err refused) = answer (header_error_number refused) []

-- for a packet of this size, into a lent header of `room` bytes
unfoldable pub header_answer : ℕ → ℕ → Answer
header_answer size room = cond (eqb room header_size && sendable size) (answer done []) (answer bad_packet [])

-- the lent header after it
unfoldable pub header_output : Result ⊤ HeaderError → ℕ → List ℕ → List ℕ
header_output (Ok _) size out = header_of size
header_output (Err _) size out = out
