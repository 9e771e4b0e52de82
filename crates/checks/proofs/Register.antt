-- Laws of any register: over appends, and its bound; then those on xor, for the registers that keep it.
-- Assumes nothing.
use Prim.Native.Nat.{ℕ, zero, suc, ◌*◌, ◌^◌, ◌≤◌, ◌<◌}
use mathlib.Core.Path.{◌≡◌, ◌∙◌, ap, ap₂, refl, sym}
use mathlib.Core.List.{List, [], ◌∷◌, zip_with}
use native.Mathlib.Nat.{lt_of_lt_of_le}
use native.Mathlib.Omega.{arith}
use lib.Bits.{bit_xor, differ, xor_lt, xor_self, xor_zero_r}
use Rattle.checks.specs.Register.{Register, bit_step, bit_steps, byte_step, check_from}
use Rattle.checks.specs.Laws.{Joins, OneMore, StaysBelow, LinearOverXor, Differences}
use Rattle.checks.specs.BitOrder.{bit_enters, bits_enter, InOrder}
use Rattle.checks.proofs.Xor.{xor_swap, xor_right, differ_times}

pub joins : (g : Register) → Joins g
unfolding check_from
joins g r [] ys = refl
joins g r (x ∷ xs) ys = joins g (byte_step g r x) xs ys

pub one_more : (g : Register) → OneMore g
unfolding check_from
one_more g r bytes b = joins g r bytes (b ∷ [])

-- A bit step that stays within k bits, at least eight, keeps the check there.
module _ (g : Register) (k : ℕ) (wide : 256 ≤ 2 ^ k) (stays : (r : ℕ) → r < 2 ^ k → bit_step g r < 2 ^ k) where
  steps_below : (n r : ℕ) → r < 2 ^ k → bit_steps g n r < 2 ^ k
  unfolding bit_steps
  steps_below zero r h = h
  steps_below (suc n) r h = steps_below n (bit_step g r) (stays r h)

  pub byte_below : (r b : ℕ) → r < 2 ^ k → b < 256 → byte_step g r b < 2 ^ k
  unfolding byte_step
  byte_below r b h small = steps_below 8 (bit_xor r b) (xor_lt k r b h (lt_of_lt_of_le small wide))

  pub stays_below : StaysBelow (2 ^ k) g
  unfolding check_from
  stays_below r [] h bytes = h
  stays_below r (b ∷ bs) h bytes =
      stays_below (byte_step g r b) bs (byte_below r b h (bytes 0)) (λ i. bytes (suc i))

-- A register keeps xor where moving on and the bit that leaves do; each of its steps is then linear.
pub record KeepsXor (g : Register) : Type 0 where
  pub moved_xor : (a b : ℕ) → g.moved (bit_xor a b) ≡ bit_xor (g.moved a) (g.moved b)
  pub leaving_xor : (a b : ℕ) → g.leaving (bit_xor a b) ≡ differ (g.leaving a) (g.leaving b)
  pub leaving_bit : (a : ℕ) → g.leaving a < 2

-- the bits that leave first, in their order, and what is then left
abbrev pub leavings : Register → ℕ → ℕ → List ℕ
leavings g zero b = []
leavings g (suc n) b = g.leaving b ∷ leavings g n (g.moved b)

abbrev pub remaining : Register → ℕ → ℕ → ℕ
remaining g zero b = b
remaining g (suc n) b = remaining g n (g.moved b)

module _ (g : Register) (keeps : KeepsXor g) where
  step_xor : (a b : ℕ) → bit_step g (bit_xor a b) ≡ bit_xor (bit_step g a) (bit_step g b)
  unfolding bit_step
  step_xor a b =
      ap₂ (λ (m d : ℕ). bit_xor m (d * g.polynomial)) (keeps.moved_xor a b) (keeps.leaving_xor a b)
      ∙ ap (bit_xor (bit_xor (g.moved a) (g.moved b)))
      (differ_times g.polynomial (g.leaving a) (g.leaving b) (keeps.leaving_bit a) (keeps.leaving_bit b))
      ∙ xor_swap (g.moved a) (g.moved b) (g.leaving a * g.polynomial) (g.leaving b * g.polynomial)

  pub steps_xor : (n a b : ℕ) → bit_steps g n (bit_xor a b) ≡ bit_xor (bit_steps g n a) (bit_steps g n b)
  unfolding bit_steps
  steps_xor zero a b = refl
  steps_xor (suc n) a b = ap (bit_steps g n) (step_xor a b) ∙ steps_xor n (bit_step g a) (bit_step g b)

  byte_xor : (r s b c : ℕ) → byte_step g (bit_xor r s) (bit_xor b c) ≡ bit_xor (byte_step g r b) (byte_step g s c)
  unfolding byte_step
  byte_xor r s b c = ap (bit_steps g 8) (xor_swap r s b c) ∙ steps_xor 8 (bit_xor r b) (bit_xor s c)

  pub linear : LinearOverXor g
  unfolding check_from zip_with
  linear r s [] [] e = refl
  linear r s [] (y ∷ ys) e = absurd (omega arith)
  linear r s (x ∷ xs) [] e = absurd (omega arith)
  linear r s (x ∷ xs) (y ∷ ys) e =
      ap (λ (q : ℕ). check_from g q (zip_with bit_xor xs ys)) (byte_xor r s x y)
      ∙ linear (byte_step g r x) (byte_step g s y) xs ys (omega arith)

  pub differences : Differences g
  differences xs ys e =
      sym (linear g.start g.start xs ys e) ∙ ap (λ (q : ℕ). check_from g q (zip_with bit_xor xs ys)) (xor_self g.start)

  -- a number added to the register enters by the bits that leave it
  step_enters : (r b : ℕ) → bit_step g (bit_xor r b) ≡ bit_xor (bit_enters g r (g.leaving b)) (g.moved b)
  unfolding bit_step bit_enters
  step_enters r b =
      ap₂ (λ (m d : ℕ). bit_xor m (d * g.polynomial)) (keeps.moved_xor r b) (keeps.leaving_xor r b)
      ∙ xor_right (g.moved r) (g.moved b) (differ (g.leaving r) (g.leaving b) * g.polynomial)

  steps_enter : (n r b : ℕ) → bit_steps g n (bit_xor r b) ≡ bit_xor (bits_enter g r (leavings g n b)) (remaining g n b)
  unfolding bit_steps bits_enter
  steps_enter zero r b = refl
  steps_enter (suc n) r b =
      ap (bit_steps g n) (step_enters r b) ∙ steps_enter n (bit_enters g r (g.leaving b)) (g.moved b)

  -- where the eight bits that leave a byte are these, and nothing is left, they enter in this order
  pub in_order : (bits_of : ℕ → List ℕ)
      → ((b : ℕ) → leavings g 8 b ≡ bits_of b) → ((b : ℕ) → b < 256 → remaining g 8 b ≡ 0) → InOrder bits_of g
  unfolding byte_step
  in_order bits_of leave none r b h =
      steps_enter 8 r b
      ∙ ap₂ (λ bits rest. bit_xor (bits_enter g r bits) rest) (leave b) (none b h)
      ∙ xor_zero_r (bits_enter g r (bits_of b))
