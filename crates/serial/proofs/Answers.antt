-- A step's answer has document 01's number and value, given exactly when document 01 says so. Assumes nothing.
use Prim.Native.Nat.{ℕ}
use mathlib.Core.Path.{◌≡◌, ◌∙◌, ap, refl}
use mathlib.Core.Bool.{Bool, true, false, cond}
use mathlib.Core.List.{[], ◌∷◌}
use Rattle.std.proofs.Common.{Some, Ok, Err}
use Rattle.checks.specs.Numbers.{answer, done}
use Rattle.serial.specs.declared.receiver.Position.{Position}
use Rattle.serial.specs.declared.receiver.Position.TheVariants.{FrameSearch, SerialRevision, ByteCount, Data, DataEscaped, Check, FrameEnd}
use Rattle.serial.specs.declared.receiver.Receiver.{Receiver}
use Rattle.serial.specs.declared.receiver.Stepped.{Stepped}
use Rattle.serial.specs.Answers.{handed_at, outcome_answer, step_answer}
use Rattle.serial.specs.Receiver.{consistent_of, frame_end_row, fresh_of, hands_out, quiet, row_of, step_of, stepped}

-- a row hands out what is said of its position, and refuses nothing
row_answer : (p : Position) (b : ℕ) (s : Receiver) → outcome_answer (row_of p b s).outcome ≡ answer done (handed_at p b s)
unfolding row_of
row_answer FrameSearch b s = refl
row_answer SerialRevision b s = refl
row_answer ByteCount b s = refl
row_answer Data b s = refl
row_answer DataEscaped b s = refl
row_answer Check b s = refl
row_answer FrameEnd b s = go (hands_out b s)
  where
    go : (t : Bool) → outcome_answer (cond t (stepped (Ok (Some s.count)) (frame_end_row b s)) (quiet (frame_end_row b s))).outcome
        ≡ answer done (cond t (s.count ∷ []) [])
    go true = refl
    go false = refl

either_answer : (b : ℕ) (s : Receiver) (t : Bool)
    → outcome_answer (cond t (row_of s.position b s) (stepped (Err record {}) fresh_of)).outcome
    ≡ cond t (answer done (handed_at s.position b s)) (outcome_answer (Err record {}))
either_answer b s true = row_answer s.position b s
either_answer b s false = refl

-- a step's result and its answer
pub step_answered : (b : ℕ) (s : Receiver) (r : Stepped) → r ≡ step_of b s → (r ≡ step_of b s) × (outcome_answer r.outcome ≡ step_answer b s)
unfolding step_of
step_answered b s r e = (e, ap (λ (x : Stepped). outcome_answer x.outcome) e ∙ either_answer b s (consistent_of s))
