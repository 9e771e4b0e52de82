-- Decimal there and back: digits and number both go by the last digit, which is the number's remainder by 10, and what stands before it is its tenth. A
-- number from 10 on has a tenth of at least 1, so its text begins with no zero; and a text that begins with no zero has a number of at least 1.
-- Assumes nothing.
use Prim.Native.Nat.{ℕ, zero, suc, ◌+◌, ◌-◌, ◌*◌, ◌/◌, ◌%◌, ◌^◌, ◌≤◌, ◌<◌}
use mathlib.Core.Path.{◌≡◌, ◌∙◌, ap, ap₂, refl, subst, sym}
use mathlib.Core.Bool.{Bool, true, false, not, ◌&&◌, and_assoc, and-true, false≢true}
use mathlib.Core.List.{List, [], ◌∷◌, ◌++◌}
use native.Mathlib.Omega.{arith}
use lib.Dec.{eqb, ltb}
use lib.ListN.{length, get_or, take, length-append, get_or-append}
use borrow.Author.Tests.{eqb-false, lt-ltb, ltb-false, ltb-true, ne_eqb, not-true}
use Rattle.checks.proofs.Choice.{and, left, right}
use Rattle.checks.proofs.Last.{front_last}
use Rattle.io.specs.Digits.{hex_digit_ascii}
use Rattle.text.specs.Decimal.{decimal, digits_of}
use Rattle.text.specs.Laws.{DecimalReadBack, OnlyDecimal}
use Rattle.text.specs.Read.{all_digits, decimal_value, digit_value, starts_number, value_from}
use Rattle.text.proofs.DecimalLaws.{more_left, one_left}
use Rattle.text.proofs.HexBack.{digit_back, only_digit}
use Rattle.text.proofs.HexLaws.{numeral}
use Rattle.text.proofs.ReadLaws.{decimal-read, starts_long, value_least}

-- ---- a text and its last digit

value_last : (n : ℕ) (ds : List ℕ) (d : ℕ) → value_from n (ds ++ (d ∷ [])) ≡ value_from n ds * 10 + digit_value d
unfolding value_from
value_last n [] d = refl
value_last n (e ∷ ds) d = value_last (n * 10 + digit_value e) ds d

digits_last : (ds : List ℕ) (d : ℕ) → all_digits 10 (ds ++ (d ∷ [])) ≡ (all_digits 10 ds && ltb (digit_value d) 10)
unfolding all_digits
digits_last [] d = and-true (ltb (digit_value d) 10)
digits_last (e ∷ ds) d =
    ap (λ (t : Bool). ltb (digit_value e) 10 && t) (digits_last ds d) ∙ sym (and_assoc (ltb (digit_value e) 10) (all_digits 10 ds) (ltb (digit_value d) 10))

-- ---- written, then read

-- what holds of a number below 10, and, where it holds of the tenth, of a number from 10 on, holds of each number that has at most f digits
by_tenths : (P : ℕ → List ℕ → Type 0) → ((n : ℕ) → n < 10 → P n (hex_digit_ascii n ∷ []))
    → ((n : ℕ) (tenth : List ℕ) → 10 ≤ n → P (n / 10) tenth → P n (tenth ++ (hex_digit_ascii (n % 10) ∷ [])))
    → (f n : ℕ) → n < 10 ^ suc f → P n (digits_of (suc f) n)
by_tenths P one more zero n h = subst (P n) (sym (one_left zero n (omega arith))) (one n (omega arith))
by_tenths P one more (suc f) n h = go (ltb n 10) refl (by_tenths P one more f (n / 10) (omega arith))
  where
    go : (t : Bool) → ltb n 10 ≡ t → P (n / 10) (digits_of (suc f) (n / 10)) → P n (digits_of (suc (suc f)) n)
    go true e tenth = subst (P n) (sym (one_left (suc f) n (ltb-true n 10 e))) (one n (ltb-true n 10 e))
    go false e tenth = subst (P n) (sym (more_left (suc f) n (ltb-false n 10 e))) (more n (digits_of (suc f) (n / 10)) (ltb-false n 10 e) tenth)

-- a text begins with a digit that is not 0
abbrev Leads : List ℕ → Type 0
Leads ds = (1 ≤ length ds) × (get_or ds 0 0 ≡ 48 → ⊥)

-- a text of two bytes and more that does begins as a number does
leads_starts : (ds : List ℕ) → 2 ≤ length ds → Leads ds → starts_number ds ≡ true
leads_starts ds h l = sym (starts_long ds h) ∙ ap not (ne_eqb (get_or ds 0 0) 48 l.1)

-- a text is that of a number
record Tells (n : ℕ) (ds : List ℕ) : Type 0 where
  value : value_from 0 ds ≡ n
  digits : all_digits 10 ds ≡ true
  starts : starts_number ds ≡ true
  leads : 1 ≤ n → Leads ds

tells_one : (n : ℕ) → n < 10 → Tells n (hex_digit_ascii n ∷ [])
unfolding value_from all_digits starts_number
tells_one n h =
    let same = digit_back n (omega arith) in
    record {
      value = omega (arith, same);
      digits = and (lt-ltb (digit_value (hex_digit_ascii n)) 10 (omega (arith, same))) refl;
      starts = refl;
      leads = λ (l : 1 ≤ n). (omega arith, λ (z : hex_digit_ascii n ≡ 48). omega (arith, numeral n h));
    }

tells_more : (n : ℕ) (tenth : List ℕ) → 10 ≤ n → Tells (n / 10) tenth → Tells n (tenth ++ (hex_digit_ascii (n % 10) ∷ []))
tells_more n tenth h t =
    let last = digit_back (n % 10) (omega arith) in
    let front = t.leads (omega arith) in
    let longer = length-append tenth (hex_digit_ascii (n % 10) ∷ []) in
    let same_first = get_or-append tenth (hex_digit_ascii (n % 10) ∷ []) 0 0 front.0 in
    let leads : Leads (tenth ++ (hex_digit_ascii (n % 10) ∷ [])) = (omega (arith, longer, front.0), λ z. front.1 (sym same_first ∙ z)) in
    record {
      value = omega (arith, value_last 0 tenth (hex_digit_ascii (n % 10)), t.value, last);
      digits = digits_last tenth (hex_digit_ascii (n % 10)) ∙ and t.digits (lt-ltb (digit_value (hex_digit_ascii (n % 10))) 10 (omega (arith, last)));
      starts = leads_starts (tenth ++ (hex_digit_ascii (n % 10) ∷ [])) (omega (arith, longer, front.0)) leads;
      leads = λ (l : 1 ≤ n). leads;
    }

pub decimal_read_back : DecimalReadBack
decimal_read_back n h =
    let t = by_tenths Tells tells_one tells_more 19 n (omega arith) in
    sym (decimal-read (decimal n) n t.starts t.digits (sym t.value) h)

-- ---- read, then written

-- a digit that is not `0` has a value of at least 1
some_value : (d : ℕ) → digit_value d < 10 → (d ≡ 48 → ⊥) → 1 ≤ digit_value d
some_value d h other = go (digit_value d) refl
  where
    go : (v : ℕ) → digit_value d ≡ v → 1 ≤ v
    go zero e = absurd (other (sym (only_digit d (omega arith)) ∙ ap (λ (n : ℕ). hex_digit_ascii n) e))
    go (suc v) e = omega arith

-- so has a text that it leads
some_number : (d : ℕ) (ds : List ℕ) → digit_value d < 10 → (d ≡ 48 → ⊥) → 1 ≤ value_from 0 (d ∷ ds)
unfolding value_from
some_number d ds h other = omega (arith, some_value d h other, value_least (0 * 10 + digit_value d) ds)

-- a text that begins as a number does is not empty
starts_some : (text : List ℕ) → starts_number text ≡ true → 1 ≤ length text
unfolding starts_number
starts_some [] e = absurd (false≢true e)
starts_some (d ∷ ds) e = omega arith

-- of texts with a number below 10 ^ f
abbrev Only : ℕ → List ℕ → Type 0
Only f text = starts_number text ≡ true → all_digits 10 text ≡ true → value_from 0 text < 10 ^ f → digits_of f (value_from 0 text) ≡ text

-- one digit
only_one : (f c : ℕ) → Only (suc f) (c ∷ [])
unfolding value_from all_digits
only_one f c s a h =
    let small = ltb-true (digit_value c) 10 (left _ _ a) in
    let same : 0 * 10 + digit_value c ≡ digit_value c = omega arith in
    ap (digits_of (suc f)) same ∙ one_left f (digit_value c) small ∙ ap (λ (x : ℕ). x ∷ []) (only_digit c (omega arith))

-- several: the text before the last digit
module _ (d : ℕ) (ds : List ℕ) (c : ℕ) (s : starts_number (d ∷ (ds ++ (c ∷ []))) ≡ true) (a : all_digits 10 (d ∷ (ds ++ (c ∷ []))) ≡ true) where
  both : (all_digits 10 (d ∷ ds) && ltb (digit_value c) 10) ≡ true
  both = sym (digits_last (d ∷ ds) c) ∙ a

  front_digits : all_digits 10 (d ∷ ds) ≡ true
  front_digits = left _ _ both

  last_small : digit_value c < 10
  last_small = ltb-true (digit_value c) 10 (right (all_digits 10 (d ∷ ds)) _ both)

  no_zero : d ≡ 48 → ⊥
  no_zero = eqb-false d 48 (not-true (eqb d 48) (starts_long (d ∷ (ds ++ (c ∷ []))) (omega (arith, length-append ds (c ∷ []))) ∙ s))

  front_some : 1 ≤ value_from 0 (d ∷ ds)
  unfolding all_digits
  front_some = some_number d ds (ltb-true (digit_value d) 10 (left _ _ front_digits)) no_zero

  front_starts : starts_number (d ∷ ds) ≡ true
  unfolding starts_number
  front_starts = go ds
    where
      go : (es : List ℕ) → starts_number (d ∷ es) ≡ true
      go [] = refl
      go (e ∷ es) = ap not (ne_eqb d 48 no_zero)

  -- the last digit is the remainder by 10, and the number of the text before it the tenth
  parts : value_from 0 (d ∷ (ds ++ (c ∷ []))) ≡ value_from 0 (d ∷ ds) * 10 + digit_value c
  parts = value_last 0 (d ∷ ds) c

-- of a text and its last digit: with one digit allowed, and with one more than the text before it has
last_one : (ds : List ℕ) (c : ℕ) → Only 1 (ds ++ (c ∷ []))
last_one [] c s a h = only_one 0 c s a h
last_one (d ∷ ds) c s a h = absurd (omega (arith, parts d ds c s a, front_some d ds c s a))

last_more : (f : ℕ) → ((text : List ℕ) → Only (suc f) text) → (ds : List ℕ) (c : ℕ) → Only (suc (suc f)) (ds ++ (c ∷ []))
last_more f tenth [] c s a h = only_one (suc f) c s a h
last_more f tenth (d ∷ ds) c s a h =
    let v = value_from 0 (d ∷ (ds ++ (c ∷ []))) in
    let some = front_some d ds c s a in
    let small = last_small d ds c s a in
    let split = parts d ds c s a in
    let front : v / 10 ≡ value_from 0 (d ∷ ds) = omega arith in
    let last : v % 10 ≡ digit_value c = omega arith in
    more_left (suc f) v (omega arith)
    ∙ ap₂ (λ (n x : ℕ). digits_of (suc f) n ++ (hex_digit_ascii x ∷ [])) front last
    ∙ ap₂ (λ (xs : List ℕ) (x : ℕ). xs ++ (x ∷ []))
    (tenth (d ∷ ds) (front_starts d ds c s a) (front_digits d ds c s a) (omega arith)) (only_digit c (omega arith))

by_last : (f : ℕ) → ((ds : List ℕ) (c : ℕ) → Only f (ds ++ (c ∷ []))) → (text : List ℕ) → Only f text
by_last f last text s =
    subst (Only f) (sym (front_last text (starts_some text s))) (last (take (length text - 1) text) (get_or text (length text - 1) 0)) s

only : (f : ℕ) (text : List ℕ) → Only (suc f) text
only zero text = by_last 1 last_one text
only (suc f) text = by_last (suc (suc f)) (last_more f (only f)) text

pub only_decimal : OnlyDecimal
only_decimal text e =
    let both = left _ _ e in
    let small = ltb-true (decimal_value text) (2 ^ 64) (right (starts_number text && all_digits 10 text) _ e) in
    only 19 text (left _ _ both) (right (starts_number text) _ both) (omega arith)
