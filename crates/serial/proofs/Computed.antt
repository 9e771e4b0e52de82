-- What the definitions give at their limits is computed. It rests on no law, so that an error in a definition shows here and not in the words of a
-- proof that no longer fits. Assumes nothing.
use mathlib.Core.Path.{ap, refl}
use native.Mathlib.Omega.{arith}
use lib.ListN.{get_or}
use Rattle.checks.specs.Register.{bit_step, bit_steps, byte_step, check_from}
use Rattle.framing.specs.Frame.{escaped, escaped_all, frame}
use Rattle.serial.specs.declared.receiver.Receiver.{Receiver}
use Rattle.serial.specs.Computed.{Fitting, NotFitting, NotFresh, OutcomeTold, PacketHandedOut, PositionsTold, ReasonTold, RefusalsTold, StepRefuses, TakerAtLimits}
use Rattle.serial.specs.Receiver.{agrees_of, consistent_of, fits_at, position_number, row_of, step_of}
use Rattle.serial.specs.Taker.{copied_of, take_from, taken_of}

pub positions_told : PositionsTold
positions_told = (refl, refl, refl, refl, refl, refl, refl, refl, refl, refl, refl, refl, refl, refl, refl)

pub not_fresh : NotFresh
not_fresh = (
  λ e. omega (arith, ap (λ (s : Receiver). position_number s.position) e),
  λ e. omega (arith, ap (λ (s : Receiver). get_or s.stored 0 0) e),
)

pub fitting : Fitting
unfolding consistent_of fits_at
fitting = (refl, refl, refl, refl, refl, refl, refl, refl, refl, refl)

pub not_fitting : NotFitting
unfolding consistent_of fits_at
not_fitting = (refl, refl, refl, refl, refl, refl, refl, refl, refl, refl, refl, refl, refl, refl, refl)

pub step_refuses : StepRefuses
unfolding step_of consistent_of fits_at
step_refuses b = (refl, refl)

pub taker_at_limits : TakerAtLimits
unfolding taken_of take_from step_of consistent_of fits_at row_of
taker_at_limits = (refl, refl, refl, refl, refl, refl, refl)

pub packet_handed_out : PacketHandedOut
unfolding taken_of take_from copied_of step_of consistent_of fits_at row_of agrees_of frame escaped_all escaped check_from byte_step bit_steps bit_step
packet_handed_out = (refl, refl, refl)

pub outcome_told : OutcomeTold
outcome_told n = (refl, refl, refl, refl, refl, refl)

pub reason_told : ReasonTold
reason_told n = (refl, refl, refl, refl, refl, refl, refl, refl, refl, refl)

pub refusals_told : RefusalsTold
refusals_told = (refl, refl, refl)
