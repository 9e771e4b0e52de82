-- The published values are computed, and so is where each wrong check value or law differs: over no bytes or over one. Assumes nothing.
use Prim.Native.Nat.{ℕ}
use mathlib.Core.Path.{refl}
use mathlib.Core.List.{List, [], ◌∷◌, zip_with}
use native.Mathlib.Omega.{arith}
use Rattle.checks.specs.BitOrder.{bit_enters, bits_enter}
use Rattle.checks.specs.Laws.{Bytes}
use Rattle.checks.specs.Register.{bit_step, bit_steps, byte_step, check_from}
use Rattle.checks.specs.Wrong.{FrameCheckDiffers, NotFromStart, NotLinearOfOne, NotSevenSteps, NotSwapped, PecDiffers, Published}
use Rattle.checks.proofs.Bytes.{bytes_cons, bytes_none}

pub published : Published
unfolding check_from byte_step bit_steps bit_step
published = (refl, refl)

-- the byte 01, alone
abbrev one : List ℕ
one = 0x01 ∷ []

one_bytes : Bytes one
one_bytes = bytes_cons 0x01 [] (omega arith) bytes_none

pub frame_check_differs : FrameCheckDiffers
unfolding check_from byte_step bit_steps bit_step
frame_check_differs = (
  λ h. omega (arith, h [] bytes_none),
  λ h. omega (arith, h one one_bytes),
  λ h. omega (arith, h [] bytes_none),
  λ h. omega (arith, h one one_bytes),
)

pub pec_differs : PecDiffers
unfolding check_from byte_step bit_steps bit_step
pec_differs = (
  λ h. omega (arith, h [] bytes_none),
  λ h. omega (arith, h one one_bytes),
  λ h. omega (arith, h [] bytes_none),
  λ h. omega (arith, h one one_bytes),
)

pub not_seven_steps : NotSevenSteps
unfolding byte_step bit_steps bit_step
not_seven_steps = (λ h. omega (arith, h 0 1 (omega arith)), λ h. omega (arith, h 0 1 (omega arith)))

-- a register of 0, and the byte whose first two bits are 1 and 0
pub not_swapped : NotSwapped
unfolding byte_step bit_steps bit_step bits_enter bit_enters
not_swapped = (λ h. omega (arith, h 0 0x01 (omega arith)), λ h. omega (arith, h 0 0x80 (omega arith)))

-- 01 and 00: the one list twice gives 0
pub not_linear_of_one : NotLinearOfOne
unfolding check_from byte_step bit_steps bit_step zip_with
not_linear_of_one = (
  λ h. omega (arith, h 0 0 one (0x00 ∷ []) one_bytes (bytes_cons 0x00 [] (omega arith) bytes_none) refl),
  λ h. omega (arith, h 0 0 one (0x00 ∷ []) one_bytes (bytes_cons 0x00 [] (omega arith) bytes_none) refl),
)

-- of no bytes and no bytes the difference is 0, and the start value is not
pub not_from_start : NotFromStart
unfolding check_from zip_with
not_from_start h = omega (arith, h [] [] bytes_none bytes_none refl)
