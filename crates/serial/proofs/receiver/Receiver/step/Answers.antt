-- `Receiver::step` meets its contract: an inconsistent state is refused, and from any other the step is the row's. Assumes nothing.
use Rattle.serial.proofs.Answers.{step_answered}
use Rattle.serial.proofs.receiver.Receiver.step.Goals as goal

pub returns-clause-outcome_value : goal.returns-clause-outcome_value
returns-clause-outcome_value c = (step_answered _ _ _ c.advance.ensures).1
