-- Hex there and back: a digit's code tells its value, and its value the code; so two digits tell a byte. A line feed is no digit, so it ends a line.
-- Assumes nothing.
use Prim.Native.Nat.{ℕ, suc, ◌+◌, ◌-◌, ◌*◌, ◌/◌, ◌%◌, ◌≤◌, ◌<◌}
use mathlib.Core.Path.{◌≡◌, ◌∙◌, ap, ap₂, refl, sym}
use mathlib.Core.Bool.{Bool, true, false, ◌&&◌}
use mathlib.Core.List.{List, [], ◌∷◌, ◌++◌, append_assoc, head-eq_of_cons-eq, tail-eq_of_cons-eq}
use native.Mathlib.Omega.{arith}
use lib.Dec.{eqb, leb, ltb}
use lib.ListN.{length}
use borrow.Author.Tests.{eq-eqb, eqb-true, le-leb, leb-true, lt-leb, lt-ltb, ltb-false, ltb-true}
use Rattle.checks.specs.Laws.{Bytes}
use Rattle.checks.specs.Output.{at_start}
use Rattle.checks.proofs.Choice.{and, left, right}
use Rattle.io.specs.Digits.{hex_digit_ascii}
use Rattle.std.specs.Prelude.{Some}
use Rattle.text.specs.Hex.{hex_all, line_feed}
use Rattle.text.specs.Laws.{HexReadBack, HexTells, LineTells, OnlyHex}
use Rattle.text.specs.Read.{all_digits, digit_value, hex_bytes, hex_output, hex_read, is_hex, pair_value}
use Rattle.text.proofs.HexLaws.{hex_length, letter, numeral}

-- ---- a digit

numeral_value : (d : ℕ) → d < 10 → digit_value (48 + d) ≡ d
unfolding digit_value
numeral_value d h = simp (le-leb 48 (48 + d) (omega arith), le-leb (48 + d) 57 (omega arith)) (omega arith)

letter_value : (d : ℕ) → 10 ≤ d → d < 16 → digit_value (87 + d) ≡ d
unfolding digit_value
letter_value d l h =
    simp (le-leb 48 (87 + d) (omega arith), lt-leb (87 + d) 57 (omega arith), le-leb 97 (87 + d) (omega arith), le-leb (87 + d) 102 (omega arith))
    (omega arith)

-- its code tells its value
pub digit_back : (d : ℕ) → d < 16 → digit_value (hex_digit_ascii d) ≡ d
digit_back d h = go (ltb d 10) refl
  where
    go : (t : Bool) → ltb d 10 ≡ t → digit_value (hex_digit_ascii d) ≡ d
    go true e = ap digit_value (sym (numeral d (ltb-true d 10 e))) ∙ numeral_value d (ltb-true d 10 e)
    go false e = ap digit_value (sym (letter d (ltb-false d 10 e))) ∙ letter_value d (ltb-false d 10 e) h

-- and its value the code
pub only_digit : (c : ℕ) → digit_value c < 16 → hex_digit_ascii (digit_value c) ≡ c
unfolding digit_value
only_digit c h = go (leb 48 c && leb c 57) (leb 97 c && leb c 102) refl refl
  where
    code : (d : ℕ) → digit_value c ≡ d → hex_digit_ascii d ≡ c → hex_digit_ascii (digit_value c) ≡ c
    code d e g = ap (λ (n : ℕ). hex_digit_ascii n) e ∙ g

    go : (s t : Bool) → (leb 48 c && leb c 57) ≡ s → (leb 97 c && leb c 102) ≡ t → hex_digit_ascii (digit_value c) ≡ c
    go true t es et =
        let least = leb-true 48 c (left _ _ es) in
        let most = leb-true c 57 (right (leb 48 c) _ es) in
        code (c - 48) (simp es) (sym (numeral (c - 48) (omega arith)) ∙ omega arith)
    go false true es et =
        let least = leb-true 97 c (left _ _ et) in
        code (c - 87) (simp (es, et)) (sym (letter (c - 87) (omega arith)) ∙ omega arith)
    go false false es et = absurd (let none : digit_value c ≡ 16 = simp (es, et) in omega arith)

-- ---- a text

-- the hex of bytes has digits alone
hex_digits : (bs : List ℕ) → Bytes bs → all_digits 16 (hex_all bs) ≡ true
unfolding hex_all all_digits
hex_digits [] h = refl
hex_digits (b ∷ bs) h =
    let small = h 0 in
    let high : digit_value (hex_digit_ascii (b / 16)) < 16 = omega (arith, digit_back (b / 16) (omega arith)) in
    let low : digit_value (hex_digit_ascii (b % 16)) < 16 = omega (arith, digit_back (b % 16) (omega arith)) in
    and (lt-ltb _ 16 high) (and (lt-ltb _ 16 low) (hex_digits bs (λ (i : ℕ). h (suc i))))

-- an even number of them
hex_is_hex : (bs : List ℕ) → Bytes bs → is_hex (hex_all bs) ≡ true
hex_is_hex bs h = and (eq-eqb (length (hex_all bs) % 2) 0 (omega (arith, hex_length bs))) (hex_digits bs h)

-- and these are the bytes
pub bytes_back : (bs : List ℕ) → Bytes bs → hex_bytes (hex_all bs) ≡ bs
unfolding hex_all hex_bytes
bytes_back [] h = refl
bytes_back (b ∷ bs) h =
    let small = h 0 in
    let both = ap₂ (λ (x y : ℕ). x * 16 + y) (digit_back (b / 16) (omega arith)) (digit_back (b % 16) (omega arith)) in
    let same : b / 16 * 16 + b % 16 ≡ b = omega arith in
    ap₂ (λ (x : ℕ) (xs : List ℕ). x ∷ xs) (both ∙ same) (bytes_back bs (λ (i : ℕ). h (suc i)))

pub hex_read_back : HexReadBack
unfolding hex_read hex_output
hex_read_back bs out h room =
    let half : length (hex_all bs) / 2 ≡ length bs = omega (arith, hex_length bs) in
    let all = and (hex_is_hex bs h) (le-leb (length (hex_all bs) / 2) (length out) (omega arith)) in
    (simp all (ap (λ (n : ℕ). Some n) half), simp all (ap (λ (xs : List ℕ). at_start xs out) (bytes_back bs h)))

-- the text of a byte whose two digits are given
pair_text : (h l : ℕ) → digit_value h < 16 → digit_value l < 16
    → (hex_digit_ascii (pair_value h l / 16) ≡ h) × (hex_digit_ascii (pair_value h l % 16) ≡ l)
pair_text h l hh hl =
    let high : pair_value h l / 16 ≡ digit_value h = omega arith in
    let low : pair_value h l % 16 ≡ digit_value l = omega arith in
    (ap (λ (n : ℕ). hex_digit_ascii n) high ∙ only_digit h hh, ap (λ (n : ℕ). hex_digit_ascii n) low ∙ only_digit l hl)

only_pairs : (text : List ℕ) → length text % 2 ≡ 0 → all_digits 16 text ≡ true → hex_all (hex_bytes text) ≡ text
unfolding hex_all hex_bytes all_digits
only_pairs [] e d = refl
only_pairs (h ∷ []) e d = absurd (omega arith)
only_pairs (h ∷ l ∷ rest) e d =
    let first = left _ _ d in
    let behind = right (ltb (digit_value h) 16) _ d in
    let both = pair_text h l (ltb-true _ _ first) (ltb-true _ _ (left _ _ behind)) in
    let more = only_pairs rest (omega arith) (right (ltb (digit_value l) 16) _ behind) in
    ap₂ (λ (x : ℕ) (xs : List ℕ). x ∷ xs) both.0 (ap₂ (λ (x : ℕ) (xs : List ℕ). x ∷ xs) both.1 more)

pub only_hex : OnlyHex
only_hex text e =
    only_pairs text (eqb-true (length text % 2) 0 (left _ _ e)) (right (eqb (length text % 2) 0) _ e)

-- ---- what a text tells

pub hex_tells : HexTells
hex_tells bs cs hb hc e = sym (bytes_back bs hb) ∙ ap hex_bytes e ∙ bytes_back cs hc

-- no digit is a line feed
no_line_feed : (d : ℕ) → hex_digit_ascii d ≡ line_feed → ⊥
no_line_feed d h = go (ltb d 10) refl
  where
    go : (t : Bool) → ltb d 10 ≡ t → ⊥
    go true e = omega (arith, numeral d (ltb-true d 10 e))
    go false e = omega (arith, letter d (ltb-false d 10 e))

-- no two bytes have the same two digits
byte_tells : (b c : ℕ) → b < 256 → c < 256 → hex_digit_ascii (b / 16) ≡ hex_digit_ascii (c / 16) → hex_digit_ascii (b % 16) ≡ hex_digit_ascii (c % 16) → b ≡ c
byte_tells b c hb hc high low =
    omega (
      arith,
      digit_back (b / 16) (omega arith),
      digit_back (c / 16) (omega arith),
      ap digit_value high,
      digit_back (b % 16) (omega arith),
      digit_back (c % 16) (omega arith),
      ap digit_value low,
    )

-- up to the line feed
digits_tell : (bs cs rest more : List ℕ) → Bytes bs → Bytes cs → hex_all bs ++ (line_feed ∷ rest) ≡ hex_all cs ++ (line_feed ∷ more) → (bs ≡ cs) × (rest ≡ more)
unfolding hex_all
digits_tell [] [] rest more hb hc e = (refl, tail-eq_of_cons-eq e)
digits_tell [] (c ∷ cs) rest more hb hc e = absurd (no_line_feed (c / 16) (sym (head-eq_of_cons-eq e)))
digits_tell (b ∷ bs) [] rest more hb hc e = absurd (no_line_feed (b / 16) (head-eq_of_cons-eq e))
digits_tell (b ∷ bs) (c ∷ cs) rest more hb hc e =
    let behind = tail-eq_of_cons-eq e in
    let same = byte_tells b c (hb 0) (hc 0) (head-eq_of_cons-eq e) (head-eq_of_cons-eq behind) in
    let others = digits_tell bs cs rest more (λ (i : ℕ). hb (suc i)) (λ (i : ℕ). hc (suc i)) (tail-eq_of_cons-eq behind) in
    (ap₂ (λ (x : ℕ) (xs : List ℕ). x ∷ xs) same others.0, others.1)

pub line_tells : LineTells
line_tells bs cs rest more hb hc e =
    digits_tell bs cs rest more hb hc
    (sym (append_assoc (hex_all bs) (line_feed ∷ []) rest) ∙ e ∙ append_assoc (hex_all cs) (line_feed ∷ []) more)
