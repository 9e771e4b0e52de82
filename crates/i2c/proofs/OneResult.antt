-- Each public function allows one result, and leaves one content in what it is lent, by its contract as the source states it (`Reads.Post`).
-- Assumes nothing.
use Rattle.std.specs.Prelude.{ℕ, Result}
use mathlib.Core.Path.{◌∙◌, ap, sym}
use mathlib.Core.List.{List}
use Rattle.checks.specs.OneResult.{OneOutcome, OneReading, OneResult}
use Rattle.checks.proofs.Part.{same_part}
use Rattle.i2c.specs.declared.encoder.EncodeError.{EncodeError}
use Rattle.i2c.specs.Decode.{payload_part}
use Rattle.i2c.specs.Encode.{encode_output}
use Rattle.i2c.proofs.Answers.{same_decoded, same_encoded}
use Rattle.i2c.proofs.decoder.U32FromDecodeError.from.Kinds as decode-error
use Rattle.i2c.proofs.decoder.U32FromDecodeError.from.Reads as decode-error-reads
use Rattle.i2c.proofs.decoder.decode.Kinds as decode
use Rattle.i2c.proofs.decoder.decode.Reads as decode-reads
use Rattle.i2c.proofs.decoder.payload.Kinds as payload
use Rattle.i2c.proofs.decoder.payload.Reads as payload-reads
use Rattle.i2c.proofs.encoder.U32FromEncodeError.from.Kinds as encode-error
use Rattle.i2c.proofs.encoder.U32FromEncodeError.from.Reads as encode-error-reads
use Rattle.i2c.proofs.encoder.encode.Kinds as encode
use Rattle.i2c.proofs.encoder.encode.Reads as encode-reads

-- the output is the fourth of the parameters own, dest, payload, out and pec
pub encode_one : OneOutcome 2 encode.ps encode.r (λ κs e. e.1.1.1.0.now) encode-reads.Post
encode_one κs a x y e f p q =
    let same = same_encoded x y (p.0 ∙ sym q.0) in (
      same,
      p.1
          ∙ ap (λ (r : Result ℕ EncodeError). encode_output r a.0 a.1.0 a.1.1.1.1.0 a.1.1.0.now a.1.1.1.0.now) same
          ∙ sym q.1,
    )

pub decode_one : OneResult 1 decode.ps decode.r decode-reads.Post
decode_one κs a x y e f p q = same_decoded x y (p ∙ sym q)

-- what is read off the payload: its bytes and where they lie
pub payload_one : OneReading 1 payload.ps payload.r {A = List ℕ × (ℕ × ℕ)} (λ κs r. (r.now, r.ref_ptr)) payload-reads.Post
payload_one κs a x y e f p q = same_part x y a.0 (payload_part a.1.0 a.0.now) p q

-- the number of a refusal
pub encode_error_one : OneResult 0 encode-error.ps encode-error.r encode-error-reads.Post
encode_error_one κs a x y e f p q = p ∙ sym q

pub decode_error_one : OneResult 0 decode-error.ps decode-error.r decode-error-reads.Post
decode_error_one κs a x y e f p q = p ∙ sym q
