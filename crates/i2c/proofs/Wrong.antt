-- Each wrong encoder and decoder fails at its input: both sides are computed there, and differ. Assumes nothing.
use Prim.Native.Nat.{ℕ}
use mathlib.Core.Path.{ap}
use mathlib.Core.List.{List}
use native.Mathlib.Omega.{arith}
use lib.ListN.{get_or}
use Rattle.checks.specs.Part.{Part}
use Rattle.checks.specs.Register.{bit_step, bit_steps, byte_step, check_from}
use Rattle.checks.proofs.Numbers.{same_number}
use Rattle.i2c.specs.Decode.{body_answer, decode_answer, payload_part}
use Rattle.i2c.specs.Encode.{encode_answer, encode_output}
use Rattle.i2c.specs.Wrong.{AnyPecFails, NothingWrittenFails, PecCountedFails, RefusedElsewhereFails, RoomFirstFails}

pub room_first_fails : RoomFirstFails
unfolding encode_answer
room_first_fails e = omega (arith, same_number e)

-- the third byte is 6, and would be 7
pub pec_counted_fails : PecCountedFails
unfolding encode_output
pec_counted_fails out e = omega (arith, ap (λ (bytes : List ℕ). get_or bytes 2 0) e)

pub nothing_written_fails : NothingWrittenFails
unfolding encode_output
nothing_written_fails e = omega (arith, ap (λ (bytes : List ℕ). get_or bytes 0 0) e)

pub any_pec_fails : AnyPecFails
unfolding decode_answer body_answer check_from byte_step bit_steps bit_step
any_pec_fails e = omega (arith, same_number e)

pub refused_elsewhere_fails : RefusedElsewhereFails
unfolding payload_part decode_answer body_answer
refused_elsewhere_fails e = omega (arith, ap (λ (p : Part). p.place) e)
