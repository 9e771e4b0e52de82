-- `checks::frame_table` meets its contract: antt computes the rule at 0 to 255 and finds the constant. Assumes nothing.
use mathlib.Core.Path.{refl}
use Rattle.checks.specs.Register.{bit_step, bit_steps}
use Rattle.checks.proofs.frame_entries.frame_table.Goals as goal

pub returns : goal.returns
unfolding bit_steps bit_step
returns c = refl
