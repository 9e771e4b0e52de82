-- What these streams hand out is computed from the definitions. It rests on no law, so that an error in a definition shows here and not in the
-- words of a proof that no longer fits. Assumes nothing.
use mathlib.Core.Path.{refl}
use Rattle.checks.specs.Register.{bit_step, bit_steps, byte_step, check_from}
use Rattle.line.specs.Computed.{NearMisses, ThreeHeard}
use Rattle.line.specs.Demand3.{placed}
use Rattle.framing.specs.Frame.{escaped, escaped_all, frame, frames}
use Rattle.serial.specs.Receiver.{agrees_of, consistent_of, fits_at, row_of, step_of}
use Rattle.serial.specs.Run.{outs_by, run_by}

pub three_heard : ThreeHeard
unfolding outs_by run_by step_of consistent_of fits_at row_of agrees_of placed frames frame escaped_all escaped check_from byte_step bit_steps bit_step
three_heard = (refl, refl)

pub near_misses : NearMisses
unfolding outs_by step_of consistent_of fits_at row_of agrees_of check_from byte_step bit_steps bit_step
near_misses = (refl, refl, refl, refl)
