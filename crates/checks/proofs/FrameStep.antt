-- A byte's step of the frame check, as this crate's functions make it: the register's high byte, and eight bit steps of its low byte with the byte that
-- enters. A table has those as its entries, and shifts compute them. Both are the crate's own matter, so this file is not `pub mod`.
-- Assumes nothing.
use Prim.Native.Nat.{ℕ, ◌*◌, ◌/◌, ◌%◌, ◌<◌}
use mathlib.Core.Path.{◌≡◌, ◌∙◌, ap, ap₂, refl, sym}
use mathlib.Core.List.{List}
use native.Mathlib.Nat.{div-eq_of_lt}
use native.Mathlib.Omega.{arith}
use lib.Bits.{bit_or, bit_xor, xor_mod, xor_shr, xor_zero_r}
use lib.ListN.{get_or}
use Rattle.checks.specs.Register.{bit_step, bit_steps, byte_step}
use Rattle.checks.specs.FrameCheck.{frame_register}
use Rattle.checks.specs.Table.{table_of}
use Rattle.checks.proofs.FrameCheck.{low_bits}
use Rattle.checks.proofs.Table.{entry}
use Rattle.checks.proofs.Xor.{xor_assoc}

-- the high byte and the low one
high_and_low : (r b : ℕ) → b < 256 → bit_xor (r / 256) (bit_steps frame_register 8 (bit_xor r b % 256)) ≡ byte_step frame_register r b
unfolding byte_step
high_and_low r b h =
    let steps = bit_steps frame_register 8 (bit_xor r b % 256) in
    sym (low_bits 8 (bit_xor r b)
    ∙ ap (λ (high : ℕ). bit_xor high steps) (xor_shr r b 8 ∙ ap (bit_xor (r / 256)) (div-eq_of_lt h) ∙ xor_zero_r (r / 256)))

-- by a table that a function has fetched
pub by_table : (table : List ℕ) (r b : ℕ) → table ≡ table_of (bit_steps frame_register 8) 256 → b < 256
    → bit_xor (r / 256) (get_or table (bit_xor r b % 256) 0) ≡ byte_step frame_register r b
by_table table r b e h =
    let low = bit_xor r b % 256 in
    ap (bit_xor (r / 256)) (ap (λ (t : List ℕ). get_or t low 0) e ∙ entry (bit_steps frame_register 8) 256 low (omega arith))
    ∙ high_and_low r b h

-- by shifts, within 32 bits: the low byte and itself four places up, and that byte where the polynomial's bits are
abbrev spread : ℕ → ℕ
spread x = bit_xor x (x * 16 % 0x100000000) % 256

abbrev shifted : ℕ → ℕ
shifted s = bit_xor (s * 8 % 0x100000000) (bit_or (s * 256 % 0x100000000) (s / 16))

-- of each byte that is eight bit steps: one test that antt computes
same_entries : table_of (λ (x : ℕ). shifted (spread x)) 256 ≡ table_of (bit_steps frame_register 8) 256
unfolding bit_steps bit_step
same_entries = refl

shifts_steps : (x : ℕ) → x < 256 → shifted (spread x) ≡ bit_steps frame_register 8 x
shifts_steps x h =
    sym (entry (λ (y : ℕ). shifted (spread y)) 256 x h)
    ∙ ap (λ (table : List ℕ). get_or table x 0) same_entries
    ∙ entry (bit_steps frame_register 8) 256 x h

-- only the low byte counts
spread_low : (x : ℕ) → spread x ≡ spread (x % 256)
spread_low x =
    let low : x % 256 ≡ x % 256 % 256 = omega arith in
    let up : x * 16 % 0x100000000 % 256 ≡ x % 256 * 16 % 0x100000000 % 256 = omega arith in
    xor_mod x (x * 16 % 0x100000000) 8 ∙ ap₂ bit_xor low up ∙ sym (xor_mod (x % 256) (x % 256 * 16 % 0x100000000) 8)

pub by_shifts : (r b s : ℕ) → s ≡ spread (bit_xor r b) → b < 256
    → bit_xor (bit_xor (r / 256) (s * 8 % 0x100000000)) (bit_or (s * 256 % 0x100000000) (s / 16)) ≡ byte_step frame_register r b
by_shifts r b s e h =
    xor_assoc (r / 256) (s * 8 % 0x100000000) (bit_or (s * 256 % 0x100000000) (s / 16))
    ∙ ap (bit_xor (r / 256)) (ap shifted (e ∙ spread_low (bit_xor r b)) ∙ shifts_steps (bit_xor r b % 256) (omega arith))
    ∙ high_and_low r b h
