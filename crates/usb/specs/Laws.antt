-- What is proved of decode: a header with its packet is accepted, and nothing else is. The proofs: `proofs/Headers.antt`. Assumes nothing.
use Rattle.std.specs.Prelude.{ℕ, ◌≡◌, List, [], ◌∷◌, ◌++◌, length}
use Rattle.checks.specs.Numbers.{answer, done}
use Rattle.checks.specs.Part.{Inside, bytes_of}
use Rattle.usb.specs.Decode.{decode_answer, packet_part, remainder_part}
use Rattle.usb.specs.Header.{header_with}

-- what decode gives of some bytes: a packet and a remainder
abbrev Gives : List ℕ → List ℕ → List ℕ → Type 0
Gives bytes packet remainder = (decode_answer bytes ≡ answer done (length packet ∷ []))
    × (bytes_of (packet_part bytes) bytes ≡ packet) × (bytes_of (remainder_part bytes) bytes ≡ remainder)

-- a packet behind its header, with any third byte and anything behind it, is given back
abbrev pub HeaderDecoded : Type 0
HeaderDecoded = (third : ℕ) (packet rest : List ℕ) → Gives (header_with third (length packet) ++ (packet ++ rest)) packet rest

-- a header with some third byte, a packet and a remainder
pub record DecodedAs (bytes packet remainder : List ℕ) : Type 0 where
  pub third : ℕ
  pub parts : bytes ≡ header_with third (length packet) ++ (packet ++ remainder)

-- nothing else is accepted
abbrev pub OnlyHeaders : Type 0
OnlyHeaders = (bytes : List ℕ) (n : ℕ) → decode_answer bytes ≡ answer done (n ∷ [])
    → DecodedAs bytes (bytes_of (packet_part bytes) bytes) (bytes_of (remainder_part bytes) bytes)

-- packet and remainder lie within the input, whatever the input is
abbrev pub PartsInside : Type 0
PartsInside = (input : List ℕ) → Inside (packet_part input) (length input) × Inside (remainder_part input) (length input)
