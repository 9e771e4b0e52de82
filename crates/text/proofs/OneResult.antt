-- Each public function allows one result, and leaves one content in what it is lent, by its contract as the source states it (`Reads.Post`).
-- Assumes nothing.
use mathlib.Core.Path.{◌∙◌, sym}
use Rattle.checks.specs.OneResult.{OneOutcome, OneResult}
use Rattle.text.proofs.decimal.put_decimal.Kinds as put-decimal
use Rattle.text.proofs.decimal.put_decimal.Reads as put-decimal-reads
use Rattle.text.proofs.decimal.read_decimal.Kinds as read-decimal
use Rattle.text.proofs.decimal.read_decimal.Reads as read-decimal-reads
use Rattle.text.proofs.hex.put_hex.Kinds as put-hex
use Rattle.text.proofs.hex.put_hex.Reads as put-hex-reads
use Rattle.text.proofs.hex.put_line.Kinds as put-line
use Rattle.text.proofs.hex.put_line.Reads as put-line-reads
use Rattle.text.proofs.hex.read_hex.Kinds as read-hex
use Rattle.text.proofs.hex.read_hex.Reads as read-hex-reads
use Rattle.text.proofs.plain.put.Kinds as put
use Rattle.text.proofs.plain.put.Reads as put_reads

-- the output is the second parameter
pub put_one : OneOutcome 2 put.ps put.r (λ κs e. e.1.0.now) put_reads.Post
put_one κs a x y e f p q = (p.0 ∙ sym q.0, p.1.0 ∙ sym q.1.0)

pub put_hex_one : OneOutcome 2 put-hex.ps put-hex.r (λ κs e. e.1.0.now) put-hex-reads.Post
put_hex_one κs a x y e f p q = (p.0 ∙ sym q.0, p.1.0 ∙ sym q.1.0)

pub put_line_one : OneOutcome 2 put-line.ps put-line.r (λ κs e. e.1.0.now) put-line-reads.Post
put_line_one κs a x y e f p q = (p.0 ∙ sym q.0, p.1.0 ∙ sym q.1.0)

pub put_decimal_one : OneOutcome 1 put-decimal.ps put-decimal.r (λ κs e. e.1.0.now) put-decimal-reads.Post
put_decimal_one κs a x y e f p q = (p.0 ∙ sym q.0, p.1.0 ∙ sym q.1.0)

pub read_hex_one : OneOutcome 2 read-hex.ps read-hex.r (λ κs e. e.1.0.now) read-hex-reads.Post
read_hex_one κs a x y e f p q = (p.0 ∙ sym q.0, p.1.0 ∙ sym q.1.0)

pub read_decimal_one : OneResult 1 read-decimal.ps read-decimal.r read-decimal-reads.Post
read_decimal_one κs a x y e f p q = p ∙ sym q
