-- What these frames are is computed from the definitions. It rests on no law, so that an error in a definition shows here and not in the words of a
-- proof that no longer fits. Assumes nothing.
use Prim.Native.Nat.{ℕ}
use mathlib.Core.Path.{ap, refl}
use mathlib.Core.List.{List}
use native.Mathlib.Omega.{arith}
use lib.ListN.{get_or}
use Rattle.checks.specs.Register.{bit_step, bit_steps, byte_step, check_from}
use Rattle.framing.specs.Computed.{CaseAFrame, FlagAsCheck, FlagAsCount, LengthFirst, LengthsAnswered, NumbersTold, RestKept, SomethingWritten}
use Rattle.framing.specs.Frame.{escaped, escaped_all, frame}
use Rattle.framing.specs.Writer.{output_of, writer_answer}

pub case-a-frame : CaseAFrame
unfolding frame escaped_all escaped check_from byte_step bit_steps bit_step
case-a-frame = refl

pub flag_as_check : FlagAsCheck
unfolding frame escaped_all escaped check_from byte_step bit_steps bit_step
flag_as_check = refl

pub flag_as_count : FlagAsCount
unfolding frame escaped_all escaped check_from byte_step bit_steps bit_step
flag_as_count = refl

pub numbers_told : NumbersTold
numbers_told n = (refl, refl, refl, refl, refl, refl)

pub lengths_answered : LengthsAnswered
unfolding writer_answer frame escaped_all escaped
lengths_answered = (refl, refl, refl, refl, refl, refl)

pub length_first : LengthFirst
unfolding writer_answer
length_first = refl

pub something_written : SomethingWritten
unfolding output_of frame
something_written e = omega (arith, ap (λ (out : List ℕ). get_or out 0 0) e)

pub rest_kept : RestKept
unfolding output_of frame escaped_all escaped
rest_kept = refl
