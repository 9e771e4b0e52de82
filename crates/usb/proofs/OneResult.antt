-- Each public function allows one result, returns one part, and leaves one content in what it is lent, by its contract as the source states it
-- (`Reads.Post`). Assumes nothing.
use Rattle.std.specs.Prelude.{ℕ, Result, ⊤}
use mathlib.Core.Path.{◌∙◌, ap, sym}
use mathlib.Core.List.{List}
use Rattle.checks.specs.OneResult.{OneOutcome, OneReading, OneResult}
use Rattle.checks.proofs.Part.{same_part}
use Rattle.usb.specs.declared.head.HeaderError.{HeaderError}
use Rattle.usb.specs.Decode.{packet_part, remainder_part}
use Rattle.usb.specs.Header.{header_output}
use Rattle.usb.proofs.Answers.{same_decoded, same_headed}
use Rattle.usb.proofs.decoder.U32FromDecodeError.from.Kinds as decode-error
use Rattle.usb.proofs.decoder.U32FromDecodeError.from.Reads as decode-error-reads
use Rattle.usb.proofs.decoder.decode.Kinds as decode
use Rattle.usb.proofs.decoder.decode.Reads as decode-reads
use Rattle.usb.proofs.decoder.packet.Kinds as packet
use Rattle.usb.proofs.decoder.packet.Reads as packet_reads
use Rattle.usb.proofs.decoder.remainder.Kinds as remainder
use Rattle.usb.proofs.decoder.remainder.Reads as remainder-reads
use Rattle.usb.proofs.head.U32FromHeaderError.from.Kinds as header-error
use Rattle.usb.proofs.head.U32FromHeaderError.from.Reads as header-error-reads
use Rattle.usb.proofs.head.header.Kinds as header
use Rattle.usb.proofs.head.header.Reads as header-reads

-- the lent header is the last parameter
pub header_one : OneOutcome 1 header.ps header.r (λ κs e. e.1.0.now) header-reads.Post
header_one κs a x y e f p q =
    let same = same_headed x y (p.0 ∙ sym q.0) in
    (same, p.1 ∙ ap (λ (r : Result ⊤ HeaderError). header_output r a.0 a.1.0.now) same ∙ sym q.1)

pub decode_one : OneResult 1 decode.ps decode.r decode-reads.Post
decode_one κs a x y e f p q = same_decoded x y (p ∙ sym q)

-- a returned part: its bytes, and where they lie
pub packet_one : OneReading 1 packet.ps packet.r {A = List ℕ × (ℕ × ℕ)} (λ κs r. (r.now, r.ref_ptr)) packet_reads.Post
packet_one κs a x y e f p q = same_part x y a.0 (packet_part a.0.now) p q

pub remainder_one : OneReading 1 remainder.ps remainder.r {A = List ℕ × (ℕ × ℕ)} (λ κs r. (r.now, r.ref_ptr)) remainder-reads.Post
remainder_one κs a x y e f p q = same_part x y a.0 (remainder_part a.0.now) p q

-- the number of a refusal
pub header_error_one : OneResult 0 header-error.ps header-error.r header-error-reads.Post
header_error_one κs a x y e f p q = p ∙ sym q

pub decode_error_one : OneResult 0 decode-error.ps decode-error.r decode-error-reads.Post
decode_error_one κs a x y e f p q = p ∙ sym q
