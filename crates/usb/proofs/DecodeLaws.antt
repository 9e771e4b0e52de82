-- Laws of decode's definition: what each check makes of the answer, and back, what an input is that is accepted: each test was passed. Assumes nothing.
use Prim.Native.Nat.{ℕ, ◌+◌, ◌-◌, ◌≤◌, ◌<◌}
use mathlib.Core.Path.{◌≡◌, refl}
use mathlib.Core.Bool.{Bool, true, false, cond, not, ◌&&◌}
use mathlib.Core.List.{List, [], ◌∷◌}
use mathlib.Core.Logic.{◌⊎◌, inl, inr}
use native.Mathlib.Omega.{arith}
use lib.Dec.{eqb, ltb}
use lib.ListN.{length, get_or}
use borrow.Author.Tests.{eq-eqb, eqb-true, le-ltb, lt-ltb, ltb-false, ne_eqb}
use Rattle.checks.specs.Numbers.{Answer, answer, done}
use Rattle.checks.proofs.Choice.{by_cond}
use Rattle.checks.proofs.Numbers.{same_number, same_value}
use Rattle.usb.specs.Decode.{decode_answer}
use Rattle.usb.specs.Header.{first_byte, header_size, second_byte}
use Rattle.usb.specs.Numbers.{rx_failure}

-- ---- decode's checks, one after the other

module _ (input : List ℕ) where
  -- each check that refuses, where those before it do not
  pub too_short : length input < header_size → decode_answer input ≡ answer rx_failure []
  unfolding decode_answer
  too_short h = simp (lt-ltb (length input) header_size h)

  pub other_start : header_size ≤ length input
      → (get_or input 0 0 ≡ first_byte → ⊥) ⊎ ((get_or input 0 0 ≡ first_byte) × (get_or input 1 0 ≡ second_byte → ⊥))
      → decode_answer input ≡ answer rx_failure []
  unfolding decode_answer
  other_start long (inl wrong) = simp (le-ltb (length input) header_size long, ne_eqb (get_or input 0 0) first_byte wrong)
  other_start long (inr (first, wrong)) =
      simp (le-ltb (length input) header_size long, eq-eqb (get_or input 0 0) first_byte first, ne_eqb (get_or input 1 0) second_byte wrong)

  module _ (long : header_size ≤ length input) (first : get_or input 0 0 ≡ first_byte) (second : get_or input 1 0 ≡ second_byte)
      (len : ℕ) (there : len ≡ get_or input 3 0) where
    pub bad_length : (len < header_size) ⊎ ((header_size ≤ len) × (length input < len)) → decode_answer input ≡ answer rx_failure []
    unfolding decode_answer
    bad_length (inl h) =
        simp (
          le-ltb (length input) header_size long,
          eq-eqb (get_or input 0 0) first_byte first,
          eq-eqb (get_or input 1 0) second_byte second,
          lt-ltb (get_or input 3 0) header_size (omega arith),
        )
    bad_length (inr (h, k)) =
        simp (
          le-ltb (length input) header_size long,
          eq-eqb (get_or input 0 0) first_byte first,
          eq-eqb (get_or input 1 0) second_byte second,
          le-ltb (get_or input 3 0) header_size (omega arith),
          lt-ltb (length input) (get_or input 3 0) (omega arith),
        )

    -- and where none refuses
    pub whole : header_size ≤ len → len ≤ length input → decode_answer input ≡ answer done ((len - header_size) ∷ [])
    unfolding decode_answer
    whole h k =
        simp (
          le-ltb (length input) header_size long,
          eq-eqb (get_or input 0 0) first_byte first,
          eq-eqb (get_or input 1 0) second_byte second,
          le-ltb (get_or input 3 0) header_size (omega arith),
          le-ltb (length input) (get_or input 3 0) (omega arith),
          there,
        )

-- what an answer of decode can be: a packet, or a refusal
pub data Decides (a : Answer) : Type 0 where
  accepts : (n : ℕ) → a ≡ answer done (n ∷ []) → Decides a
  refuses : a ≡ answer rx_failure [] → Decides a

-- each test of the definition, in its order
pub decides : (input : List ℕ) → Decides (decode_answer input)
unfolding decode_answer
decides input =
    by_cond Decides (ltb (length input) header_size) _ _ (λ _. refuses refl) (λ _.
    by_cond Decides (not (eqb (get_or input 0 0) first_byte && eqb (get_or input 1 0) second_byte)) _ _ (λ _. refuses refl) (λ _.
    by_cond Decides (ltb (get_or input 3 0) header_size) _ _ (λ _. refuses refl) (λ _.
    by_cond Decides (ltb (length input) (get_or input 3 0)) _ _ (λ _. refuses refl) (λ _.
    accepts (get_or input 3 0 - header_size) refl))))

-- ---- and back

-- header and length of an input that is accepted with a packet of n bytes
pub record Accepted (input : List ℕ) (n : ℕ) : Type 0 where
  pub first : get_or input 0 0 ≡ first_byte
  pub second : get_or input 1 0 ≡ second_byte
  pub size : get_or input 3 0 ≡ n + header_size
  pub fits : header_size + n ≤ length input

-- a refusal is not an acceptance
pub refused : {C : Type 0} (n : ℕ) → answer rx_failure [] ≡ answer done (n ∷ []) → C
refused n e = absurd (omega (arith, same_number e))

pub accepted : (input : List ℕ) (n : ℕ) → decode_answer input ≡ answer done (n ∷ []) → Accepted input n
unfolding decode_answer
accepted s n e =
    go (ltb (length s) header_size) (eqb (get_or s 0 0) first_byte) (eqb (get_or s 1 0) second_byte) (ltb (get_or s 3 0) header_size) (ltb (length s) (get_or s 3 0)) refl refl refl refl e
  where
    go : (short one two under over : Bool)
        → eqb (get_or s 0 0) first_byte ≡ one → eqb (get_or s 1 0) second_byte ≡ two
        → ltb (get_or s 3 0) header_size ≡ under → ltb (length s) (get_or s 3 0) ≡ over
        → cond short (answer rx_failure []) (cond (not (one && two)) (answer rx_failure [])
        (cond under (answer rx_failure []) (cond over (answer rx_failure []) (answer done ((get_or s 3 0 - header_size) ∷ [])))))
        ≡ answer done (n ∷ []) → Accepted s n
    go true one two under over p q h k e = refused n e
    go false false two under over p q h k e = refused n e
    go false true false under over p q h k e = refused n e
    go false true true true over p q h k e = refused n e
    go false true true false true p q h k e = refused n e
    go false true true false false p q h k e =
        let size : get_or s 3 0 - header_size ≡ n = same_value e in
        let over : get_or s 3 0 ≤ length s = ltb-false (length s) (get_or s 3 0) k in
        let under : header_size ≤ get_or s 3 0 = ltb-false (get_or s 3 0) header_size h in
        record {
          first = eqb-true (get_or s 0 0) first_byte p;
          second = eqb-true (get_or s 1 0) second_byte q;
          size = omega arith;
          fits = omega arith;
        }
