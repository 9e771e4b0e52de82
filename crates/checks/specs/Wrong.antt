-- Check values and laws that are not these: one for each slip that a tired person makes. Each differs from the right one at bytes that its proof names,
-- so a function that computes it breaks its contract. First what catalogues of checks print. The proofs: `proofs/Wrong.antt`. Assumes nothing.
use Rattle.std.specs.Prelude.{ℕ, ◌<◌, ◌≡◌, length}
use mathlib.Core.List.{List, [], ◌∷◌, drop_last, zip_with}
use Rattle.std.specs.Int.Bits.{bit_xor}
use Rattle.checks.specs.BitOrder.{NotInOrder, high_first, low_first}
use Rattle.checks.specs.FrameCheck.{frame_check, frame_register}
use Rattle.checks.specs.Laws.{Bytes}
use Rattle.checks.specs.PacketErrorCode.{pec_of, pec_register}
use Rattle.checks.specs.Register.{Register, bit_steps, byte_step, check, check_from}

-- the digits 1 to 9 in ASCII, over which the catalogues print a check
abbrev nine_digits : List ℕ
nine_digits = 0x31 ∷ 0x32 ∷ 0x33 ∷ 0x34 ∷ 0x35 ∷ 0x36 ∷ 0x37 ∷ 0x38 ∷ 0x39 ∷ []

-- what they print: the frame check is theirs without a last complement (CRC-16/MCRF4XX), the PEC is SMBus's (CRC-8/SMBUS)
abbrev pub Published : Type 0
Published = (frame_check nine_digits ≡ 0x6f91) × (pec_of nine_digits ≡ 0xf4)

-- ---- another check value

-- over some bytes, two check values are not the same
abbrev NotSame : (List ℕ → ℕ) → (List ℕ → ℕ) → Type 0
NotSame f g = ((bytes : List ℕ) → Bytes bytes → f bytes ≡ g bytes) → ⊥

-- it starts with another register
abbrev started_with : ℕ → Register → List ℕ → ℕ
started_with start g bytes = check_from g start bytes

-- it adds another polynomial
abbrev by_polynomial : ℕ → Register → List ℕ → ℕ
by_polynomial p g bytes = check (record { moved = g.moved; leaving = g.leaving; polynomial = p; start = g.start }) bytes

-- the register is complemented at the end
abbrev pub complemented : ℕ → Register → List ℕ → ℕ
complemented ones g bytes = bit_xor (check g bytes) ones

-- the last byte is left out
abbrev last_left_out : Register → List ℕ → ℕ
last_left_out g bytes = check g (drop_last bytes)

-- the frame check does not start with 0, is not by the polynomial unreflected, is not complemented as RFC 1662's is, and leaves no byte out: a
-- `frame_check` that does one of these breaks its contract
abbrev pub FrameCheckDiffers : Type 0
FrameCheckDiffers = NotSame frame_check (started_with 0 frame_register) × NotSame frame_check (by_polynomial 0x1021 frame_register)
    × NotSame frame_check (complemented 0xffff frame_register) × NotSame frame_check (last_left_out frame_register)

-- the PEC does not start with ones, is not by another polynomial of CRC-8, is not complemented, and leaves no byte out: a `pec` that does
-- one of these breaks its contract
abbrev pub PecDiffers : Type 0
PecDiffers = NotSame pec_of (started_with 0xff pec_register) × NotSame pec_of (by_polynomial 0x31 pec_register)
    × NotSame pec_of (complemented 0xff pec_register) × NotSame pec_of (last_left_out pec_register)

-- ---- another step of a byte

-- a byte's step is so many bit steps
abbrev StepsOfByte : ℕ → Register → Type 0
StepsOfByte n g = (r b : ℕ) → b < 256 → byte_step g r b ≡ bit_steps g n (bit_xor r b)

-- it is not seven, of either: a `frame_next` that stops a bit early breaks its contract, and so does a table of such entries
abbrev pub NotSevenSteps : Type 0
NotSevenSteps = (StepsOfByte 7 frame_register → ⊥) × (StepsOfByte 7 pec_register → ⊥)

-- the first two of some bits change places
abbrev first_two_swapped : List ℕ → List ℕ
first_two_swapped [] = []
first_two_swapped (d ∷ []) = d ∷ []
first_two_swapped (d ∷ e ∷ ds) = e ∷ d ∷ ds

-- so the frame check's bits, low first, do not enter, nor the PEC's, high first
abbrev pub NotSwapped : Type 0
NotSwapped = NotInOrder (λ b. first_two_swapped (low_first b)) frame_register × NotInOrder (λ b. first_two_swapped (high_first b)) pec_register

-- ---- another law

-- linear, but with one list twice
abbrev LinearOfOne : Register → Type 0
LinearOfOne g = (r s : ℕ) (xs ys : List ℕ) → Bytes xs → Bytes ys → length xs ≡ length ys
    → check_from g (bit_xor r s) (zip_with bit_xor xs ys) ≡ bit_xor (check_from g r xs) (check_from g s xs)

abbrev pub NotLinearOfOne : Type 0
NotLinearOfOne = (LinearOfOne frame_register → ⊥) × (LinearOfOne pec_register → ⊥)

-- differences in which the start value stays. It is false of the frame check; the PEC starts with 0, so there the two are one
abbrev DifferencesFromStart : Register → Type 0
DifferencesFromStart g = (xs ys : List ℕ) → Bytes xs → Bytes ys → length xs ≡ length ys
    → bit_xor (check g xs) (check g ys) ≡ check g (zip_with bit_xor xs ys)

abbrev pub NotFromStart : Type 0
NotFromStart = DifferencesFromStart frame_register → ⊥
