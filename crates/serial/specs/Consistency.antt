-- Consistent states, and that ours always are. The proofs: `proofs/Keeps.antt`. Assumes nothing.
use Rattle.std.specs.Prelude.{ℕ, ◌<◌, ◌≡◌, true, List, length}
use Rattle.checks.specs.Laws.{Bytes}
use Rattle.checks.specs.Numbers.{done}
use Rattle.serial.specs.declared.receiver.Receiver.{Receiver}
use Rattle.serial.specs.Answers.{outcome_answer}
use Rattle.serial.specs.Receiver.{consistent_of, fresh_of, step_of, stored_size}
use Rattle.serial.specs.Run.{run_of}

-- a state of the code's type, which has 259 stored bytes, and consistent
pub record Consistent (s : Receiver) : Type 0 where
  pub sized : length s.stored ≡ stored_size
  pub fits : consistent_of s ≡ true

-- a step keeps a state consistent
abbrev pub StepKeeps : Type 0
StepKeeps = (s : Receiver) (b : ℕ) → Consistent s → b < 256 → Consistent (step_of b s).state

-- every state that bytes lead to from fresh is consistent
abbrev pub ReachableConsistent : Type 0
ReachableConsistent = (h : List ℕ) → Bytes h → Consistent (run_of fresh_of h)

-- so number 9 never comes of our own use
abbrev pub NeverInconsistent : Type 0
NeverInconsistent = (h : List ℕ) (b : ℕ) → Bytes h → (outcome_answer (step_of b (run_of fresh_of h)).outcome).number ≡ done
