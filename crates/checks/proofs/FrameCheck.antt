-- Laws of the frame check's register: it keeps xor, it stays below 65,536, its bits enter low first, and n of its bit steps are those of the low n
-- bits, and the rest moved on. Assumes nothing.
use Prim.Native.Nat.{ℕ, zero, suc, ◌*◌, ◌/◌, ◌%◌, ◌^◌, ◌<◌}
use mathlib.Core.Path.{◌≡◌, ◌∙◌, ap, ap₂, subst, sym}
use mathlib.Core.List.{List}
use native.Mathlib.Nat.{div-div-eq-div-mul, mod-lt, mul-one, zero-mul}
use native.Mathlib.Omega.{arith}
use lib.Bits.{bit_xor, shifted_even, shifted_half, xor_lt, xor_shifted, xor_zero_r}
use lib.Pow.{pow_pos, split}
use Rattle.checks.specs.Register.{bit_step, bit_steps, byte_step}
use Rattle.checks.specs.FrameCheck.{frame_check_from, frame_register}
use Rattle.checks.specs.Laws.{Bytes, StaysBelow, LinearOverXor, Differences}
use Rattle.checks.specs.BitOrder.{bit_enters, bits_enter, high_first, InOrder, low_first, NotInOrder}
use Rattle.checks.proofs.Register.{KeepsXor, differences, in_order, leavings, linear, remaining, stays_below, steps_xor}
use Rattle.checks.proofs.Xor.{half_xor, low_bit, low_xor}

keeps_xor : KeepsXor frame_register
keeps_xor = record { moved_xor = half_xor; leaving_xor = low_xor; leaving_bit = low_bit }

pub frame_linear : LinearOverXor frame_register
frame_linear = linear frame_register keeps_xor

pub frame_differences : Differences frame_register
frame_differences = differences frame_register keeps_xor

step_below : (r : ℕ) → r < 2 ^ 16 → bit_step frame_register r < 2 ^ 16
unfolding bit_step
step_below r h = xor_lt 16 (r / 2) (r % 2 * frame_register.polynomial) (omega arith) (omega arith)

pub frame_below : StaysBelow 65536 frame_register
frame_below = stays_below frame_register 16 (omega arith) step_below

-- so 16 bits hold what a loop in wider ones ends with
pub frame_fits : (bytes : List ℕ) (r last : ℕ) → r < 65536 → Bytes bytes → last ≡ frame_check_from r bytes → last < 65536
frame_fits bytes r last h k e = subst (λ (x : ℕ). x < 65536) (sym e) (frame_below r bytes h k)

leave_low_first : (b : ℕ) → leavings frame_register 8 b ≡ low_first b
leave_low_first b = simp div-div-eq-div-mul

none_remaining : (b : ℕ) → b < 256 → remaining frame_register 8 b ≡ 0
none_remaining b h = simp div-div-eq-div-mul (omega arith)

pub frame_low_first : InOrder low_first frame_register
frame_low_first = in_order frame_register keeps_xor low_first leave_low_first none_remaining

-- a register of 0 and the byte 01 tell the two orders apart
pub frame_not_high_first : NotInOrder high_first frame_register
unfolding byte_step bit_steps bit_step bits_enter bit_enters
frame_not_high_first h = omega (arith, h 0 1 (omega arith))

-- a step of a number whose low bit is 0
step_even : (a k : ℕ) → bit_step frame_register (a * 2 ^ suc k) ≡ a * 2 ^ k
unfolding bit_step
step_even a k =
    ap₂ (λ (x y : ℕ). bit_xor x (y * frame_register.polynomial)) (shifted_half a k) (shifted_even a k)
    ∙ ap (bit_xor (a * 2 ^ k)) (zero-mul frame_register.polynomial) ∙ xor_zero_r (a * 2 ^ k)

steps_even : (n a : ℕ) → bit_steps frame_register n (a * 2 ^ n) ≡ a
unfolding bit_steps
steps_even zero a = mul-one a
steps_even (suc n) a = ap (bit_steps frame_register n) (step_even a n) ∙ steps_even n a

-- n bit steps are those of the low n bits, and the rest moved on
pub low_bits : (n x : ℕ) → bit_steps frame_register n x ≡ bit_xor (x / 2 ^ n) (bit_steps frame_register n (x % 2 ^ n))
low_bits n x =
    ap (bit_steps frame_register n) (sym (split x n) ∙ sym (xor_shifted (x / 2 ^ n) n (x % 2 ^ n) (mod-lt x (pow_pos n))))
    ∙ steps_xor frame_register keeps_xor n (x / 2 ^ n * 2 ^ n) (x % 2 ^ n)
    ∙ ap (λ (y : ℕ). bit_xor y (bit_steps frame_register n (x % 2 ^ n))) (steps_even n (x / 2 ^ n))
