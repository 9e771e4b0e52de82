-- A number's decimal digits: those that the kit's `io::decimal` makes are the definition's, since both split off the last digit and both stop where
-- one is left; and there are at most as many as are allowed. Assumes nothing.
use Prim.Native.Nat.{ℕ, zero, suc, ◌-◌, ◌/◌, ◌%◌, ◌^◌, ◌≤◌, ◌<◌}
use mathlib.Core.Path.{◌≡◌, ◌∙◌, ap, refl, sym}
use mathlib.Core.Bool.{Bool, true, false}
use mathlib.Core.List.{List, [], ◌∷◌, ◌++◌}
use native.Mathlib.Omega.{arith}
use lib.Dec.{ltb}
use lib.ListN.{length, length-append}
use borrow.Author.Tests.{le-ltb, lt-ltb, ltb-false, ltb-true}
use Rattle.io.specs.Digits.{IsDigitCount, last_digits, hex_digit_ascii}
use Rattle.text.specs.Decimal.{digits_of}

-- one digit is left, or more
pub one_left : (f n : ℕ) → n < 10 → digits_of (suc f) n ≡ hex_digit_ascii n ∷ []
unfolding digits_of
one_left f n h = simp (lt-ltb n 10 h)

pub more_left : (f n : ℕ) → 10 ≤ n → digits_of (suc f) n ≡ digits_of f (n / 10) ++ (hex_digit_ascii (n % 10) ∷ [])
unfolding digits_of
more_left f n h = simp (le-ltb n 10 h)

-- no power of ten is 0
power_positive : (i : ℕ) → 1 ≤ 10 ^ i
power_positive zero = omega arith
power_positive (suc i) = omega (arith, power_positive i)

-- the kit's `k - 1` at k = j + 2
one_less : (j : ℕ) → suc (suc j) - 1 ≡ suc j
one_less j = omega arith

-- a number that has j + 2 digits, and no fewer, reaches 10 ^ (j + 1)
least : (n j : ℕ) → IsDigitCount 10 1 n (suc (suc j)) → 10 ^ suc j ≤ n
least n j w = rw (one_less j) at (w.2 (omega arith))

-- the fewest digits of a number below 10 are one
fewest_one : (n k : ℕ) → n < 10 → IsDigitCount 10 1 n k → k ≡ 1
fewest_one n zero h w = omega arith
fewest_one n (suc zero) h w = refl
fewest_one n (suc (suc j)) h w = absurd (omega (arith, least n j w, power_positive j))

-- and those of a number with more are one more than its tenth has
fewest_more : (n j : ℕ) → IsDigitCount 10 1 n (suc (suc j)) → IsDigitCount 10 1 (n / 10) (suc j)
fewest_more n zero w = (omega arith, omega (arith, w.1), λ (l : 1 < 1). omega arith)
fewest_more n (suc i) w =
    (omega arith, omega (arith, w.1), λ (l : 1 < suc (suc i)). rw (one_less i) (omega (arith, least n (suc i) w)))

-- the last digit of a number below 10 is the number
below_ten : (f k n : ℕ) → n < 10 → IsDigitCount 10 1 n k → last_digits 10 k n ≡ digits_of (suc f) n
below_ten f k n h w =
    let last : n % 10 ≡ n = omega arith in
    ap (λ (j : ℕ). last_digits 10 j n) (fewest_one n k h w) ∙ ap (λ (d : ℕ). hex_digit_ascii d ∷ []) last ∙ sym (one_left f n h)

-- a number from 10 on has its last digit behind those of its tenth
from_ten : (f k n : ℕ) → 10 ≤ n → IsDigitCount 10 1 n k
    → ((j : ℕ) → IsDigitCount 10 1 (n / 10) j → last_digits 10 j (n / 10) ≡ digits_of (suc f) (n / 10)) → last_digits 10 k n ≡ digits_of (suc (suc f)) n
from_ten f zero n h w tenth = absurd (omega arith)
from_ten f (suc zero) n h w tenth = absurd (omega (arith, w.1))
from_ten f (suc (suc i)) n h w tenth =
    ap (λ (front : List ℕ). front ++ (hex_digit_ascii (n % 10) ∷ [])) (tenth (suc i) (fewest_more n i w)) ∙ sym (more_left (suc f) n h)

-- the digits of `io::decimal` are the definition's
pub same_digits : (f k n : ℕ) → n < 10 ^ suc f → IsDigitCount 10 1 n k → last_digits 10 k n ≡ digits_of (suc f) n
same_digits zero k n h w = below_ten zero k n (omega arith) w
same_digits (suc f) k n h w = go (ltb n 10) refl (λ (j : ℕ) (v : IsDigitCount 10 1 (n / 10) j). same_digits f j (n / 10) (omega arith) v)
  where
    go : (t : Bool) → ltb n 10 ≡ t → ((j : ℕ) → IsDigitCount 10 1 (n / 10) j → last_digits 10 j (n / 10) ≡ digits_of (suc f) (n / 10))
        → last_digits 10 k n ≡ digits_of (suc (suc f)) n
    go true e tenth = below_ten (suc f) k n (ltb-true n 10 e) w
    go false e tenth = from_ten f k n (ltb-false n 10 e) w tenth

-- there are at most as many digits as are allowed
pub length_digits : (f n : ℕ) → length (digits_of f n) ≤ f
unfolding digits_of
length_digits zero n = omega arith
length_digits (suc f) n = go (ltb n 10) refl (length_digits f (n / 10))
  where
    go : (t : Bool) → ltb n 10 ≡ t → length (digits_of f (n / 10)) ≤ f → length (digits_of (suc f) n) ≤ suc f
    go true e tenth = omega (arith, ap length (one_left f n (ltb-true n 10 e)))
    go false e tenth =
        omega (arith, ap length (more_left f n (ltb-false n 10 e)), length-append (digits_of f (n / 10)) (hex_digit_ascii (n % 10) ∷ []))
