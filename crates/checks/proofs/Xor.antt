-- What `lib.Bits` lacks of xor: of halves, doubles and low bits, that it associates, that operands change places, and of a bit's multiples.
-- Assumes nothing.
use mathlib.Core.Path.{◌≡◌, ◌∙◌, ap, ap₂, refl, sym}
use Prim.Native.Nat.{ℕ, zero, suc, ◌+◌, ◌*◌, ◌/◌, ◌%◌, ◌<◌}
use native.Mathlib.Nat.{add-zero, mod-lt, zero-mul, le_of_suc-le-suc, not-suc-le-zero, zero-lt-suc}
use lib.Arith.{bin_ind}
use lib.Bits.{bit_xor, differ, xor_block, xor_step, xor_shr, xor_mod, xor_comm, xor_zero_r, xor_self}

-- what holds of 0 and of 1 holds of each bit
bit : (P : ℕ → Type 0) → P 0 → P 1 → (x : ℕ) → x < 2 → P x
bit P p q zero h = p
bit P p q (suc zero) h = q
bit P p q (suc (suc x)) h = absurd (not-suc-le-zero (le_of_suc-le-suc (le_of_suc-le-suc h)))

pub half_xor : (a b : ℕ) → bit_xor a b / 2 ≡ bit_xor (a / 2) (b / 2)
half_xor a b = xor_shr a b 1

pub double_xor : (a b : ℕ) → bit_xor a b * 2 ≡ bit_xor (a * 2) (b * 2)
double_xor a b = sym (simp add-zero at (xor_block 1 a b 0 0 (zero-lt-suc 1) (zero-lt-suc 1)))

pub low_bit : (a : ℕ) → a % 2 < 2
low_bit a = mod-lt a (zero-lt-suc 1)

differ_xor : (x y : ℕ) → x < 2 → y < 2 → bit_xor x y ≡ differ x y
differ_xor x y hx hy =
    bit (λ (x : ℕ). bit_xor x y ≡ differ x y) refl
    (bit (λ (y : ℕ). bit_xor 1 y ≡ differ 1 y) refl refl y hy) x hx

pub low_xor : (a b : ℕ) → bit_xor a b % 2 ≡ differ (a % 2) (b % 2)
low_xor a b = xor_mod a b 1 ∙ differ_xor (a % 2) (b % 2) (low_bit a) (low_bit b)

differ_assoc : (x y z : ℕ) → x < 2 → y < 2 → z < 2 → differ (differ x y) z ≡ differ x (differ y z)
differ_assoc x y z hx hy hz =
    bit (λ (x : ℕ). differ (differ x y) z ≡ differ x (differ y z)) refl
    (bit (λ (y : ℕ). differ (differ 1 y) z ≡ differ 1 (differ y z)) refl
    (bit (λ (z : ℕ). differ (differ 1 1) z ≡ differ 1 (differ 1 z)) refl refl z hz) y hy) x hx

pub xor_assoc : (a b c : ℕ) → bit_xor (bit_xor a b) c ≡ bit_xor a (bit_xor b c)
xor_assoc =
    bin_ind (λ (n : ℕ). (b c : ℕ) → bit_xor (bit_xor n b) c ≡ bit_xor n (bit_xor b c)) (λ b c. refl)
    (λ n ih b c.
    xor_step (bit_xor n b) c
    ∙ ap₂ (λ (x y : ℕ). bit_xor x (c / 2) * 2 + differ y (c % 2)) (half_xor n b) (low_xor n b)
    ∙ ap₂ (λ (x y : ℕ). x * 2 + y) (ih (b / 2) (c / 2)) (differ_assoc (n % 2) (b % 2) (c % 2) (low_bit n) (low_bit b) (low_bit c))
    ∙ sym (ap₂ (λ (x y : ℕ). bit_xor (n / 2) x * 2 + differ (n % 2) y) (half_xor b c) (low_xor b c))
    ∙ sym (xor_step n (bit_xor b c)))

pub xor_swap : (p q r s : ℕ) → bit_xor (bit_xor p q) (bit_xor r s) ≡ bit_xor (bit_xor p r) (bit_xor q s)
xor_swap p q r s =
    xor_assoc p q (bit_xor r s)
    ∙ ap (bit_xor p) (sym (xor_assoc q r s) ∙ ap (λ (x : ℕ). bit_xor x s) (xor_comm q r) ∙ xor_assoc r q s)
    ∙ sym (xor_assoc p r (bit_xor q s))

pub xor_right : (p q r : ℕ) → bit_xor (bit_xor p q) r ≡ bit_xor (bit_xor p r) q
xor_right p q r = xor_assoc p q r ∙ ap (bit_xor p) (xor_comm q r) ∙ sym (xor_assoc p r q)

-- two bits times one number
pub differ_times : (n x y : ℕ) → x < 2 → y < 2 → differ x y * n ≡ bit_xor (x * n) (y * n)
differ_times n x y hx hy =
    bit (λ (x : ℕ). differ x y * n ≡ bit_xor (x * n) (y * n)) (sym (ap (λ (k : ℕ). bit_xor k (y * n)) (zero-mul n)))
    (bit (λ (y : ℕ). differ 1 y * n ≡ bit_xor (1 * n) (y * n))
    (sym (ap (bit_xor (1 * n)) (zero-mul n) ∙ xor_zero_r (1 * n)))
    (zero-mul n ∙ sym (xor_self (1 * n))) y hy) x hx
