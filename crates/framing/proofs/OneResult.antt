-- The writer allows one result, and leaves one content in its output, by its contract as the source states it (`Reads.Post`); and the number of a refusal
-- is one. Assumes nothing.
use mathlib.Core.Path.{◌∙◌, ap, sym}
use Rattle.checks.specs.OneResult.{OneOutcome, OneResult}
use Rattle.std.proofs.Common.{Result, ℕ}
use Rattle.framing.specs.declared.error.FrameError.{FrameError}
use Rattle.framing.specs.Writer.{output_of}
use Rattle.framing.proofs.Answers.{same_written}
use Rattle.framing.proofs.frame.frame_to_serial.Kinds as frame-to-serial
use Rattle.framing.proofs.frame.frame_to_serial.Reads as frame-to-serial-reads
use Rattle.framing.proofs.error.U32FromFrameError.from.Kinds as from
use Rattle.framing.proofs.error.U32FromFrameError.from.Reads as from-reads

-- the output is the last parameter
pub frame_to_serial_one : OneOutcome 2 frame-to-serial.ps frame-to-serial.r (λ κs e. e.1.0.now) frame-to-serial-reads.Post
frame_to_serial_one κs a x y e f p q =
    let same = same_written x y (p.0 ∙ sym q.0) in
    (same, p.1 ∙ ap (λ (r : Result ℕ FrameError). output_of r a.0.now a.1.0.now) same ∙ sym q.1)

pub from_one : OneResult 0 from.ps from.r from-reads.Post
from_one κs a x y e f p q = p ∙ sym q
