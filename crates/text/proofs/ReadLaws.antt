-- Laws of reading, by the definitions' tests: a digit of a text of digits is below the base; what is left of a text from a place on; and what the two
-- functions say. Assumes nothing.
use Prim.Native.Nat.{ℕ, zero, suc, ◌+◌, ◌*◌, ◌/◌, ◌^◌, ◌≤◌, ◌<◌}
use mathlib.Core.Path.{◌≡◌, ◌∙◌, ap, refl, sym}
use mathlib.Core.Bool.{Bool, true, false, not, ◌&&◌, and-false}
use mathlib.Core.List.{List, [], ◌∷◌}
use native.Mathlib.Numerals.{add-one}
use native.Mathlib.Omega.{arith}
use lib.Dec.{eqb, ltb}
use lib.ListN.{length, drop, get_or, set, drop_of_length-le, length-drop}
use lib.Seq.{drop-cons}
use borrow.Author.Tests.{le-ltb, lt-ltb, ltb-false, ltb-true}
use Rattle.checks.specs.Output.{put_at}
use Rattle.checks.proofs.Choice.{left, right}
use Rattle.checks.proofs.Output.{put_one, put_put}
use Rattle.std.specs.Prelude.{Option, Some, None, IsSome}
use Rattle.text.specs.Read.{all_digits, decimal_read, decimal_value, digit_in, digit_value, hex_bytes, pair_value, starts_number, value_from}

-- ---- digits

-- a byte that is a digit below a base, and one that is none
pub digit_some : (base c d : ℕ) → digit_in base c ≡ Some d → (d ≡ digit_value c) × (d < base)
digit_some base c d e = go (ltb (digit_value c) base) refl
  where
    go : (t : Bool) → ltb (digit_value c) base ≡ t → (d ≡ digit_value c) × (d < base)
    go true h = let is = simp h at e in let same : d ≡ digit_value c = cc in (same, omega (arith, ltb-true _ _ h))
    go false h = absurd (let is = simp h at e in cc)

pub digit_none : (base c : ℕ) → digit_in base c ≡ None → base ≤ digit_value c
digit_none base c e = go (ltb (digit_value c) base) refl
  where
    go : (t : Bool) → ltb (digit_value c) base ≡ t → base ≤ digit_value c
    go true h = absurd (let is = simp h at e in cc)
    go false h = ltb-false _ _ h

-- each byte of a text of digits is below the base
pub digit_below : (base : ℕ) (text : List ℕ) (i : ℕ) → all_digits base text ≡ true → i < length text → digit_value (get_or text i 0) < base
unfolding all_digits
digit_below base [] i e h = absurd (omega arith)
digit_below base (c ∷ cs) zero e h = ltb-true (digit_value c) base (left _ _ e)
digit_below base (c ∷ cs) (suc i) e h = digit_below base cs i (right (ltb (digit_value c) base) _ e) (omega arith)

pub digit_there : (base : ℕ) (text : List ℕ) (i : ℕ) (r : Option ℕ) → all_digits base text ≡ true → i < length text → r ≡ digit_in base (get_or text i 0)
    → IsSome r
digit_there base text i r h k e = rw (e, lt-ltb _ _ (digit_below base text i h k)) refl

-- of what is left from i on, a byte and the rest
digits_next : (base : ℕ) (text : List ℕ) (i : ℕ) → i < length text
    → all_digits base (drop i text) ≡ (ltb (digit_value (get_or text i 0)) base && all_digits base (drop (i + 1) text))
unfolding all_digits
digits_next base text i h = rw (drop-cons text i 0 h, add-one)

module _ (base : ℕ) (text : List ℕ) (i : ℕ) (all : all_digits base (drop i text) ≡ all_digits base text) where
  pub digits_go_on : i < length text → digit_value (get_or text i 0) < base → all_digits base (drop (i + 1) text) ≡ all_digits base text
  digits_go_on h k = sym (digits_next base text i h ∙ simp (lt-ltb _ _ k)) ∙ all

  pub digits_stop : i < length text → base ≤ digit_value (get_or text i 0) → false ≡ all_digits base text
  digits_stop h k = sym (digits_next base text i h ∙ simp (le-ltb _ _ k)) ∙ all

  pub digits_end : length text ≤ i → true ≡ all_digits base text
  unfolding all_digits
  digits_end h = sym (ap (all_digits base) (drop_of_length-le text {i = i} h)) ∙ all

-- ---- hex

-- of what is left from the pair i on, its byte and the rest
pair_next : (text : List ℕ) (i : ℕ) → 2 * i + 1 < length text
    → hex_bytes (drop (2 * i) text) ≡ pair_value (get_or text (2 * i) 0) (get_or text (2 * i + 1) 0) ∷ hex_bytes (drop (2 * (i + 1)) text)
unfolding hex_bytes
pair_next text i h =
    let next : suc (2 * i) ≡ 2 * i + 1 = omega arith in
    let after : suc (2 * i + 1) ≡ 2 * (i + 1) = omega arith in
    let rest : drop (2 * i) text ≡ get_or text (2 * i) 0 ∷ get_or text (2 * i + 1) 0 ∷ drop (2 * (i + 1)) text =
    drop-cons text (2 * i) 0 (omega arith)
    ∙ ap (λ (n : ℕ). get_or text (2 * i) 0 ∷ drop n text) next
    ∙ ap (λ (xs : List ℕ). get_or text (2 * i) 0 ∷ xs) (drop-cons text (2 * i + 1) 0 h)
    ∙ ap (λ (n : ℕ). get_or text (2 * i) 0 ∷ get_or text (2 * i + 1) 0 ∷ drop n text) after
    in
    ap hex_bytes rest

-- less than a pair has no byte
no_pair : (text : List ℕ) → length text < 2 → hex_bytes text ≡ []
unfolding hex_bytes
no_pair [] h = refl
no_pair (c ∷ []) h = refl
no_pair (c ∷ d ∷ rest) h = absurd (omega arith)

pub pairs_end : (text : List ℕ) (i : ℕ) → length text / 2 ≤ i → hex_bytes (drop (2 * i) text) ≡ []
pairs_end text i h = no_pair (drop (2 * i) text) (omega (arith, length-drop (2 * i) text))

pub pairs_length : (text : List ℕ) → length (hex_bytes text) ≡ length text / 2
unfolding hex_bytes
pairs_length [] = refl
pairs_length (c ∷ []) = refl
pairs_length (c ∷ d ∷ rest) = omega (arith, pairs_length rest)

-- a turn: the pair's byte is stored, and then the rest
pub pair_turn : (text : List ℕ) (i : ℕ) (out : List ℕ) (b : ℕ) → 2 * i + 1 < length text → i < length out
    → b ≡ pair_value (get_or text (2 * i) 0) (get_or text (2 * i + 1) 0)
    → put_at (i + 1) (hex_bytes (drop (2 * (i + 1)) text)) (set out i b) ≡ put_at i (hex_bytes (drop (2 * i) text)) out
pair_turn text i out b h room e =
    let rest = hex_bytes (drop (2 * (i + 1)) text) in
    ap (put_at (i + 1) rest) (put_one i b out room)
    ∙ put_put i (b ∷ []) rest out (omega arith)
    ∙ ap (λ (xs : List ℕ). put_at i xs out) (ap (λ (x : ℕ). x ∷ rest) e ∙ sym (pair_next text i h))

-- ---- decimal

-- the first byte of a text of two bytes and more
pub starts_long : (text : List ℕ) → 2 ≤ length text → not (eqb (get_or text 0 0) 48) ≡ starts_number text
unfolding starts_number
starts_long [] h = absurd (omega arith)
starts_long (d ∷ []) h = absurd (omega arith)
starts_long (d ∷ e ∷ rest) h = refl

-- the number of what is left from i on, behind `n`
pub value_next : (text : List ℕ) (i n : ℕ) → i < length text
    → value_from n (drop i text) ≡ value_from (n * 10 + digit_value (get_or text i 0)) (drop (i + 1) text)
unfolding value_from
value_next text i n h = rw (drop-cons text i 0 h, add-one)

pub value_end : (text : List ℕ) (i n : ℕ) → length text ≤ i → value_from n (drop i text) ≡ n
unfolding value_from
value_end text i n h = ap (value_from n) (drop_of_length-le text {i = i} h)

-- more digits make no smaller number
pub value_least : (n : ℕ) (ds : List ℕ) → n ≤ value_from n ds
unfolding value_from
value_least n [] = omega arith
value_least n (d ∷ ds) = omega (arith, value_least (n * 10 + digit_value d) ds)

-- what `read_decimal` answers
module _ (text : List ℕ) where
  pub decimal-read : (value : ℕ) → starts_number text ≡ true → all_digits 10 text ≡ true → value ≡ decimal_value text → value < 2 ^ 64
      → Some value ≡ decimal_read text
  unfolding decimal_read
  decimal-read value es ea ev h = simp (es, ea, lt-ltb (decimal_value text) (2 ^ 64) (omega arith)) (ap (λ (n : ℕ). Some n) ev)

  -- a refusal
  pub no_start : starts_number text ≡ false → None ≡ decimal_read text
  unfolding decimal_read
  no_start e = simp e

  pub no_digits : all_digits 10 text ≡ false → None ≡ decimal_read text
  unfolding decimal_read
  no_digits e = simp (e, and-false)

  pub decimal_large : 2 ^ 64 ≤ decimal_value text → None ≡ decimal_read text
  unfolding decimal_read
  decimal_large h = simp (le-ltb (decimal_value text) (2 ^ 64) h, and-false)
