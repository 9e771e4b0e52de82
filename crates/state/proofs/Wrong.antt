-- Each of these fails at its buffer: both sides are computed there, and differ. Assumes nothing.
use Prim.Native.Nat.{ℕ}
use mathlib.Core.Path.{ap, refl}
use mathlib.Core.List.{List}
use native.Mathlib.Omega.{arith}
use lib.ListN.{get_or, length}
use Rattle.checks.specs.Register.{bit_step, bit_steps, byte_step, check_from}
use Rattle.serial.specs.declared.receiver.Receiver.{Receiver}
use Rattle.serial.specs.Receiver.{agrees_of, consistent_of, fits_at, position_number, row_of, step_of}
use Rattle.state.specs.InBuffer.{step_answer_in, step_leaves}
use Rattle.state.specs.State.{left, loaded}
use Rattle.state.specs.Wrong.{HandedElsewhereFails, LoadAnySizeFails, StoreAnySizeFails, UnknownPositionFails}

-- what is loaded is in FrameEnd, and would be in FrameSearch
pub load_any_size_fails : LoadAnySizeFails
unfolding loaded
load_any_size_fails = (
  λ e. omega (arith, ap (λ (s : Receiver). position_number s.position) e),
  λ e. omega (arith, ap (λ (s : Receiver). position_number s.position) e),
)

-- it has no count, and would have case A's
pub unknown_position_fails : UnknownPositionFails
unfolding loaded
unknown_position_fails e = omega (arith, ap (λ (s : Receiver). s.count) e)

-- the buffer keeps its size
pub store_any_size_fails : StoreAnySizeFails
unfolding left
store_any_size_fails = (λ e. omega (arith, ap (λ (bytes : List ℕ). length bytes) e), λ e. omega (arith, ap (λ (bytes : List ℕ). length bytes) e))

-- the second byte is the packet's, and would be the count
pub handed_elsewhere_fails : HandedElsewhereFails
unfolding step_answer_in step_leaves left loaded step_of consistent_of fits_at row_of agrees_of check_from byte_step bit_steps bit_step
handed_elsewhere_fails = (refl, λ e. omega (arith, ap (λ (bytes : List ℕ). get_or bytes 1 0) e))
