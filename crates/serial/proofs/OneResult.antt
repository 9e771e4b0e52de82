-- Each public function allows one result, and leaves one content in what it is lent, by its contract as the source states it (`Reads.Post`).
-- Assumes nothing.
use Prim.Native.Nat.{ℕ}
use mathlib.Core.Path.{◌≡◌, ◌∙◌, ap, sym}
use Rattle.std.proofs.Common.{Result, Ok, Err}
use Rattle.checks.specs.OneResult.{OneOutcome, OneResult}
use Rattle.serial.specs.declared.receiver.Position.{Position}
use Rattle.serial.specs.declared.receiver.UnknownPosition.{UnknownPosition}
use Rattle.serial.specs.declared.taker.Taken.{Taken}
use Rattle.serial.specs.Receiver.{IsPositionOf}
use Rattle.serial.specs.Taker.{copied_of}
use Rattle.serial.proofs.receiver.Receiver.fresh.Kinds as fresh
use Rattle.serial.proofs.receiver.Receiver.fresh.Reads as fresh-reads
use Rattle.serial.proofs.receiver.Receiver.consistent.Kinds as consistent
use Rattle.serial.proofs.receiver.Receiver.consistent.Reads as consistent-reads
use Rattle.serial.proofs.receiver.Receiver.step.Kinds as step
use Rattle.serial.proofs.receiver.Receiver.step.Reads as step-reads
use Rattle.serial.proofs.receiver.Receiver.take.Kinds as take
use Rattle.serial.proofs.receiver.Receiver.take.Reads as take-reads
use Rattle.serial.proofs.receiver.Position.of.Kinds as position-of
use Rattle.serial.proofs.receiver.Position.of.Reads as position-of-reads
use Rattle.serial.proofs.receiver.U8FromPosition.from.Kinds as position-number
use Rattle.serial.proofs.receiver.U8FromPosition.from.Reads as position-number-reads
use Rattle.serial.proofs.receiver.PositionTryFromU8.try_from.Kinds as position-read
use Rattle.serial.proofs.receiver.PositionTryFromU8.try_from.Reads as position-read-reads
use Rattle.serial.proofs.receiver.U32FromInconsistent.from.Kinds as inconsistent-number
use Rattle.serial.proofs.receiver.U32FromInconsistent.from.Reads as inconsistent-number-reads
use Rattle.serial.proofs.taker.U32FromTakeError.from.Kinds as take-error-number
use Rattle.serial.proofs.taker.U32FromTakeError.from.Reads as take-error-number-reads

pub fresh_one : OneResult 0 fresh.ps fresh.r fresh-reads.Post
fresh_one κs a x y e f p q = p ∙ sym q

pub consistent_one : OneResult 0 consistent.ps consistent.r consistent-reads.Post
consistent_one κs a x y e f p q = p ∙ sym q

pub step_one : OneResult 0 step.ps step.r step-reads.Post
step_one κs a x y e f p q = p.0 ∙ sym q.0

-- the output is the last parameter
pub take_one : OneOutcome 2 take.ps take.r (λ κs e. e.1.1.1.0.now) take-reads.Post
take_one κs a x y e f p q =
    let same = p.0 ∙ sym q.0 in
    (same, p.1.0 ∙ ap (λ (t : Taken). copied_of t.reason t.state a.1.1.1.0.now) same ∙ sym q.1.0)

-- ---- a position's number, and the position of a number

pub position_number_one : OneResult 0 position-number.ps position-number.r position-number-reads.Post
position_number_one κs a x y e f p q = p ∙ sym q

pub position_of_one : OneResult 0 position-of.ps position-of.r position-of-reads.Post
position_of_one κs a x y e f p q = p ∙ sym q

-- what is read of a number is the position that has it, or the number where none has
read_one : (n : ℕ) (x y : Result Position UnknownPosition) → IsPositionOf n x → IsPositionOf n y → x ≡ y
read_one n (Ok p) (Ok q) h k = cc
read_one n (Ok p) (Err e) h k = cc (k.1)
read_one n (Err e) (Ok q) h k = cc (h.1)
read_one n (Err d) (Err e) h k = ap (λ (m : ℕ). Err record { 0 = m }) (h.0 ∙ sym k.0)

pub position_read_one : OneResult 0 position-read.ps position-read.r position-read-reads.Post
position_read_one κs a x y e f p q = read_one a.0 x y p q

-- ---- the refusals' numbers

pub inconsistent_number_one : OneResult 0 inconsistent-number.ps inconsistent-number.r inconsistent-number-reads.Post
inconsistent_number_one κs a x y e f p q = p ∙ sym q

pub take_error_number_one : OneResult 0 take-error-number.ps take-error-number.r take-error-number-reads.Post
take_error_number_one κs a x y e f p q = p ∙ sym q
