-- The builder, and the conversion of its refusals to a number, allow one result and leave one content in what they are lent, by their contracts as the source
-- states them (`Reads.Post`); `proofs/OneWalk.antt` has the walker. Assumes nothing.
use Rattle.std.specs.Prelude.{ℕ, List}
use mathlib.Core.Path.{◌∙◌, ap₂, sym}
use Rattle.checks.specs.OneResult.{OneOutcome, OneResult}
use Rattle.transfer.proofs.Answers.{same_appended}
use Rattle.transfer.proofs.builder.U32FromAppendError.from.Kinds as append-error
use Rattle.transfer.proofs.builder.U32FromAppendError.from.Reads as append-error-reads
use Rattle.transfer.proofs.builder.append.Kinds as append
use Rattle.transfer.proofs.builder.append.Reads as append-reads

-- the output is the second parameter, and the used count the third
pub append_one : OneOutcome 3 append.ps append.r {A = List ℕ × ℕ} (λ κs e. (e.1.0.now, e.1.1.0.now)) append-reads.Post
append_one κs a x y e f p q = (
  same_appended x y (p.0 ∙ sym q.0),
  ap₂ {C = List ℕ × ℕ} (λ (out : List ℕ) (used : ℕ). (out, used)) (p.1.1 ∙ sym q.1.1) (p.1.0 ∙ sym q.1.0),
)

-- the number of a refusal
pub append_error_one : OneResult 0 append-error.ps append-error.r append-error-reads.Post
append_error_one κs a x y e f p q = p ∙ sym q
