-- Each wrong call fails at its input: both sides are computed there, and differ. Assumes nothing.
use Prim.Native.Nat.{ℕ}
use mathlib.Core.Path.{ap}
use mathlib.Core.List.{List}
use native.Mathlib.Omega.{arith}
use lib.ListN.{get_or}
use Rattle.checks.specs.Register.{bit_step, bit_steps, byte_step, check_from}
use Rattle.framing.specs.Frame.{escaped, escaped_all, frame}
use Rattle.framing.specs.Writer.{writer_answer}
use Rattle.i2c.specs.Decode.{body_answer, decode_answer as decodeFrameAnswer}
use Rattle.serial.specs.Receiver.{consistent_of, fits_at}
use Rattle.state.specs.State.{loaded}
use Rattle.transfer.specs.Builder.{append_answer, used_after}
use Rattle.usb.specs.Decode.{decode_answer}
use Rattle.usb.specs.Header.{header_answer}
use Rattle.pulevago.specs.Wrong.{CheckFromZerosFails, CountLostFails, EmptyHeaderFails, HalfLengthFails, PecFromOnesFails, PecFromStartFails, PecNotAskedFails, RestElsewhereFails, SizeAloneFails}

pub check_from_zeros_fails : CheckFromZerosFails
unfolding check_from byte_step bit_steps bit_step
check_from_zeros_fails e = omega (arith, e)

pub pec_from_ones_fails : PecFromOnesFails
unfolding check_from byte_step bit_steps bit_step
pec_from_ones_fails e = omega (arith, e)

pub pec_from_start_fails : PecFromStartFails
unfolding check_from byte_step bit_steps bit_step
pec_from_start_fails e = omega (arith, e)

pub half_length_fails : HalfLengthFails
unfolding writer_answer frame escaped_all escaped check_from byte_step bit_steps bit_step
half_length_fails there e = omega (arith, e)

pub size_alone_fails : SizeAloneFails
unfolding loaded consistent_of fits_at
size_alone_fails e = omega (arith, e)

pub pec_not_asked_fails : PecNotAskedFails
unfolding decodeFrameAnswer body_answer check_from byte_step bit_steps bit_step
pec_not_asked_fails e = omega (arith, e)

pub empty_header_fails : EmptyHeaderFails
unfolding header_answer
empty_header_fails there e = omega (arith, ap (λ (out : List ℕ). get_or out 3 0) e)

pub rest_elsewhere_fails : RestElsewhereFails
unfolding decode_answer
rest_elsewhere_fails there e = omega (arith, e)

pub count_lost_fails : CountLostFails
unfolding used_after append_answer
count_lost_fails e = omega (arith, e)
