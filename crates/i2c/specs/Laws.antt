-- What is proved of the frame (`proofs/FrameLaws.antt`), of decode (`proofs/Received.antt`), and of encode and decode together
-- (`proofs/RoundTrip.antt`). Assumes nothing.
use Rattle.std.specs.Prelude.{ℕ, ◌/◌, ◌≤◌, ◌≡◌, Bool, true, false, List, [], ◌∷◌, ◌++◌, Ok, length, take}
use Rattle.checks.specs.Laws.{Bytes}
use Rattle.checks.specs.Numbers.{answer, done}
use Rattle.checks.specs.PacketErrorCode.{pec_of}
use Rattle.checks.specs.Part.{Inside, bytes_of}
use Rattle.i2c.specs.Decode.{decode_answer, payload_part}
use Rattle.i2c.specs.Encode.{encode_answer, encode_output}
use Rattle.i2c.specs.Frame.{closed, frame, headed, with_pec}
use Rattle.i2c.specs.Numbers.{invalid_input}

-- the frame has the length that encode answers, and there is room for it
abbrev pub FrameLength : Type 0
FrameLength = (own dest n room : ℕ) (pec : Bool) (payload : List ℕ)
    → encode_answer own dest pec (length payload) room ≡ answer done (n ∷ [])
    → (length (frame own dest pec payload) ≡ n) × (n ≤ room)

-- of a payload of bytes that is taken, the frame is bytes
abbrev pub FrameBytes : Type 0
FrameBytes = (own dest n room : ℕ) (pec : Bool) (payload : List ℕ) → Bytes payload
    → encode_answer own dest pec (length payload) room ≡ answer done (n ∷ []) → Bytes (frame own dest pec payload)

-- what decode gives of some bytes: a source and a payload
abbrev pub Gives : Bool → List ℕ → ℕ → List ℕ → Type 0
Gives pec bytes source payload =
    (decode_answer pec bytes ≡ answer done (source ∷ [])) × (bytes_of (payload_part pec bytes) bytes ≡ payload)

-- decode of the n bytes that encode wrote, whatever the output held, gives the payload and our own address
abbrev pub RoundTrip : Type 0
RoundTrip = (own dest n : ℕ) (pec : Bool) (payload out : List ℕ)
    → encode_answer own dest pec (length payload) (length out) ≡ answer done (n ∷ [])
    → Gives pec (take n (encode_output (Ok n) own dest pec payload out)) own payload

-- the payload lies within the input, whatever the input is
abbrev pub PayloadInside : Type 0
PayloadInside = (pec : Bool) (input : List ℕ) → Inside (payload_part pec input) (length input)

-- with another byte in the place of their PEC, any bytes are refused, a well-formed frame's too
abbrev pub WrongPecRefused : Type 0
WrongPecRefused = (bytes : List ℕ) (b : ℕ) → (b ≡ pec_of bytes → ⊥) → decode_answer true (bytes ++ (b ∷ [])) ≡ answer invalid_input []

-- with its PEC behind it, any input is decoded as it is without
abbrev pub PecOnly : Type 0
PecOnly = (bytes : List ℕ)
    → (decode_answer true (with_pec bytes) ≡ decode_answer false bytes) × (payload_part true (with_pec bytes) ≡ payload_part false bytes)

-- the destination and the low bit of the fourth byte don't matter
abbrev pub NotTested : Type 0
NotTested = (dest dest' command count source source' : ℕ) (rest : List ℕ) → source / 2 ≡ source' / 2
    → (decode_answer false (dest ∷ command ∷ count ∷ source ∷ rest) ≡ decode_answer false (dest' ∷ command ∷ count ∷ source' ∷ rest))
    × (payload_part false (dest ∷ command ∷ count ∷ source ∷ rest) ≡ payload_part false (dest' ∷ command ∷ count ∷ source' ∷ rest))

-- an input as header, payload and, if wanted, the PEC, with the source as its fourth byte divided by 2
pub record ReceivedAs (pec : Bool) (input : List ℕ) (source : ℕ) (payload : List ℕ) : Type 0 where
  pub first : ℕ
  pub fourth : ℕ
  pub parts : input ≡ closed pec (headed first fourth payload)
  pub halved : fourth / 2 ≡ source

-- nothing else is accepted: what decode takes is of that form
abbrev pub OnlyFrames : Type 0
OnlyFrames = (pec : Bool) (input : List ℕ) (source : ℕ) → decode_answer pec input ≡ answer done (source ∷ [])
    → ReceivedAs pec input source (bytes_of (payload_part pec input) input)
