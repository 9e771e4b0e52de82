-- `text::decimal::read_decimal` meets its contract. The loop's invariant: what is left from the place on has digits alone where the whole text has, and
-- makes, behind the value so far, the number of the text. Assumes nothing.
use Prim.Native.Nat.{ℕ, ◌+◌, ◌*◌, ◌≤◌, ◌<◌}
use mathlib.Core.Path.{◌≡◌, ◌∙◌, ap, sym}
use mathlib.Core.List.{List}
use native.Mathlib.Omega.{arith}
use lib.ListN.{length, get_or, drop}
use Rattle.text.specs.Read.{decimal_value, digit_value, value_from}
use Rattle.text.proofs.ReadLaws.{decimal_large, decimal-read, digit_none, digit_some, digits_end, digits_go_on, digits_stop, no_digits, no_start, value_end, value_least, value_next}
use Rattle.text.proofs.decimal.read_decimal.Goals as goal

-- with one digit more the number is at least as large
grows : (text : List ℕ) (i value d : ℕ) → i < length text → d ≡ digit_value (get_or text i 0) → value_from value (drop i text) ≡ decimal_value text
    → (value_from (value * 10 + d) (drop (i + 1) text) ≡ decimal_value text) × (value * 10 + d ≤ decimal_value text)
grows text i value d h e w =
    let moved = ap (λ (x : ℕ). value_from (value * 10 + x) (drop (i + 1) text)) e ∙ sym (value_next text i value h) ∙ w in
    (moved, omega (arith, moved, value_least (value * 10 + d) (drop (i + 1) text)))

pub returns-then-not-starts_number : goal.returns-then-not-starts_number
returns-then-not-starts_number c = no_start _ (sym c.starts_number.ensures ∙ c.if-not-starts_number.true)

pub returns-in_err-d : goal.returns-in_err-d
returns-in_err-d c =
    c.from_residual.ensures
    ∙ no_digits _
    (sym (digits_stop 10 _ c.loop-c.c-index c.loop-c.invariant.1 (omega arith) (digit_none 10 _ (sym c.digit_value.ensures ∙ c.in_err-d.was))))

pub returns-in_err-checked_mul : goal.returns-in_err-checked_mul
returns-in_err-checked_mul c =
    let d = digit_some 10 _ _ (sym c.digit_value.ensures ∙ c.in_ok-d.was) in
    let more = grows _ c.loop-c.c-index _ _ (omega arith) d.0 c.loop-c.invariant.2 in
    c.from_residual-in_err-checked_mul.ensures ∙ decimal_large _ (omega (arith, c.in_err-checked_mul.ensures))

pub returns-in_err-value : goal.returns-in_err-value
returns-in_err-value c =
    let d = digit_some 10 _ _ (sym c.digit_value.ensures ∙ c.in_ok-d.was) in
    let more = grows _ c.loop-c.c-index _ _ (omega arith) d.0 c.loop-c.invariant.2 in
    c.from_residual-in_err-value.ensures ∙ decimal_large _ (omega (arith, c.in_err-value.ensures))

pub loop-c-preserved : goal.loop-c-preserved
loop-c-preserved c =
    let d = digit_some 10 _ _ (sym c.digit_value.ensures ∙ c.in_ok-d.was) in
    let more = grows _ c.loop-c.c-index _ _ (omega arith) d.0 c.loop-c.invariant.2 in
    let sum : c.in_ok-value.value ≡ c.loop-c.value * 10 + c.in_ok-d.d = omega (arith, c.in_ok-checked_mul.ensures, c.in_ok-value.ensures) in (
      omega (arith, c.in_ok-checked_mul.ensures, c.in_ok-value.ensures),
      digits_go_on 10 _ c.loop-c.c-index c.loop-c.invariant.1 (omega arith) (omega arith),
      ap (λ (n : ℕ). value_from n (drop (c.loop-c.c-index + 1) c.args.text.now)) sum ∙ more.0,
    )

pub returns : goal.returns
returns c =
    let text = c.args.text.now in
    let i = c.loop-c.c-index in
    decimal-read text c.loop-c.value (sym c.starts_number.ensures ∙ c.if-not-starts_number.false)
    (sym (digits_end 10 text i c.loop-c.invariant.1 (omega arith))) (sym (value_end text i c.loop-c.value (omega arith)) ∙ c.loop-c.invariant.2)
    c.loop-c.invariant.0
