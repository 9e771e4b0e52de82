-- The I2C frame of a payload, from DSP0237 with the packet error code of SMBus: destination, command code, byte count, source, payload, and the
-- PEC if it is wanted. Assumes nothing.
use Rattle.std.specs.Prelude.{ℕ, ◌+◌, ◌*◌, Bool, cond, List, [], ◌∷◌, ◌++◌, length}
use Rattle.checks.specs.PacketErrorCode.{pec_of}

-- destination, command code, byte count and source, a byte each
abbrev pub header_size : ℕ
header_size = 4

-- the most bytes of a payload: the byte count is one byte
abbrev pub payload_most : ℕ
payload_most = 254

-- the largest address of 7 bits
abbrev pub address_most : ℕ
address_most = 127

-- the SMBus command code of MCTP
abbrev pub command_code : ℕ
command_code = 0x0f

-- an address and the low bit beside it, as they stand in a byte
abbrev pub addressed : ℕ → ℕ → ℕ
addressed address low = address * 2 + low

-- the byte count of a payload: the source address is counted, the PEC is not
abbrev pub byte_count : ℕ → ℕ
byte_count size = size + 1

-- header and payload, with the bytes of destination and source as they stand
abbrev pub headed : ℕ → ℕ → List ℕ → List ℕ
headed first fourth payload = first ∷ command_code ∷ byte_count (length payload) ∷ fourth ∷ payload

-- sent from our own address, with the low bit beside it set, to a destination, with a low bit of 0
abbrev pub plain : ℕ → ℕ → List ℕ → List ℕ
plain own dest payload = headed (addressed dest 0) (addressed own 1) payload

-- bytes, and the PEC over all of them behind them
abbrev pub with_pec : List ℕ → List ℕ
with_pec bytes = bytes ++ (pec_of bytes ∷ [])

-- the same where it is wanted
abbrev pub closed : Bool → List ℕ → List ℕ
closed pec bytes = cond pec (with_pec bytes) bytes

-- the frame, with or without PEC
abbrev pub frame : ℕ → ℕ → Bool → List ℕ → List ℕ
frame own dest pec payload = closed pec (plain own dest payload)
