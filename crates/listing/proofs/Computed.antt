-- Texts, answers and states are computed from the definitions. It rests on no law, so that an error in a definition shows here. Assumes nothing.
use mathlib.Core.Path.{refl}
use Rattle.checks.specs.Register.{bit_step, bit_steps, byte_step, check_from}
use Rattle.serial.specs.Receiver.{agrees_of, consistent_of, fits_at, row_of, step_of}
use Rattle.serial.specs.Run.{outs_by, packets_of, run_by}
use Rattle.text.specs.Decimal.{digits_of}
use Rattle.text.specs.Hex.{hex_all}
use Rattle.listing.specs.Computed.{CaseAListed, CaseAWritten, LargestWritten, ListAnswered, NumbersTold, StateLeft}
use Rattle.listing.specs.Listing.{list_answer, listed, state_after}
use Rattle.listing.specs.Text.{lines_of}

pub case_a_written : CaseAWritten
unfolding hex_all lines_of packets_of digits_of outs_by step_of consistent_of fits_at row_of agrees_of check_from byte_step bit_steps bit_step
case_a_written = refl

pub largest_written : LargestWritten
unfolding digits_of
largest_written = refl

pub numbers_told : NumbersTold
numbers_told n = (refl, refl, refl, refl, refl, refl)

pub list_answered : ListAnswered
unfolding list_answer lines_of packets_of outs_by step_of consistent_of fits_at row_of
list_answered = (refl, refl, refl, refl, refl)

pub state_left : StateLeft
unfolding state_after run_by step_of consistent_of fits_at row_of
state_left = (refl, refl, refl)

pub case_a_listed : CaseAListed
unfolding listed packets_of outs_by step_of consistent_of fits_at row_of agrees_of check_from byte_step bit_steps bit_step
case_a_listed = refl
