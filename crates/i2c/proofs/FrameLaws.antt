-- The frame has the length that encode answers, and its bytes are bytes: addresses of 7 bits fit beside their low bit, the byte count of 254 is 255,
-- and a PEC is below 256. Assumes nothing.
use Prim.Native.Nat.{ℕ, ◌≤◌}
use mathlib.Core.Path.{◌≡◌, ◌∙◌}
use mathlib.Core.Bool.{Bool, true, false}
use mathlib.Core.List.{List, [], ◌∷◌}
use native.Mathlib.Omega.{arith}
use lib.ListN.{length, length-append}
use Rattle.checks.specs.Laws.{Bytes}
use Rattle.checks.specs.PacketErrorCode.{pec_of}
use Rattle.checks.proofs.Bytes.{bytes_append, bytes_each}
use Rattle.checks.proofs.PacketErrorCode.{pec_below}
use Rattle.i2c.specs.Encode.{frame_size}
use Rattle.i2c.specs.Frame.{address_most, addressed, byte_count, closed, command_code, frame, payload_most, plain}
use Rattle.i2c.specs.Laws.{FrameBytes, FrameLength}
use Rattle.i2c.proofs.EncodeLaws.{encode_taken}

-- a frame is as long as encode has it
frame-size : (own dest : ℕ) (pec : Bool) (payload : List ℕ) → length (frame own dest pec payload) ≡ frame_size pec (length payload)
frame-size own dest true payload = omega (arith, length-append (plain own dest payload) (pec_of (plain own dest payload) ∷ []))
frame-size own dest false payload = omega arith

pub frame_length : FrameLength
frame_length own dest n room pec payload e =
    let t = encode_taken own dest (length payload) room pec n e in
    (frame-size own dest pec payload ∙ t.whole, t.fits)

-- header and payload, and then the PEC
plain_bytes : (own dest : ℕ) (payload : List ℕ) → own ≤ address_most → dest ≤ address_most → length payload ≤ payload_most → Bytes payload → Bytes (plain own dest payload)
plain_bytes own dest payload h k fits bytes =
    let header : List ℕ = addressed dest 0 ∷ command_code ∷ byte_count (length payload) ∷ addressed own 1 ∷ [] in
    bytes_append header payload (bytes_each header (omega arith, (omega arith, (omega arith, (omega arith, tt))))) bytes

closed_bytes : (pec : Bool) (xs : List ℕ) → Bytes xs → Bytes (closed pec xs)
closed_bytes true xs bytes = bytes_append xs (pec_of xs ∷ []) bytes (bytes_each (pec_of xs ∷ []) (pec_below 0 xs (omega arith) bytes, tt))
closed_bytes false xs bytes = bytes

pub frame_bytes : FrameBytes
frame_bytes own dest n room pec payload bytes e =
    let t = encode_taken own dest (length payload) room pec n e in
    closed_bytes pec (plain own dest payload) (plain_bytes own dest payload t.own_fits t.dest_fits t.size_fits bytes)
