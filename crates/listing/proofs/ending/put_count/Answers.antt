-- `listing::ending::put_count` meets its contract: two puts, one right behind the other, both with their room. Assumes nothing.
use Prim.Native.Nat.{ℕ, ◌+◌, ◌≤◌}
use mathlib.Core.Path.{◌≡◌}
use mathlib.Core.List.{List, ◌++◌}
use native.Mathlib.Omega.{arith}
use lib.ListN.{length, length-append}
use Rattle.text.specs.Decimal.{decimal}
use Rattle.text.specs.Put.{put_end, put_text}
use Rattle.text.proofs.PutLaws.{Behind, length_behind, put_behind, then_behind}
use Rattle.listing.proofs.ending.put_count.Goals as goal

two-puts : (place : ℕ) (xs ys out : List ℕ) (middle next : ℕ) (before after : List ℕ) → place + length (xs ++ ys) ≤ length out
    → middle ≡ put_end place xs (length out) → before ≡ put_text place xs out
    → next ≡ put_end middle ys (length before) → after ≡ put_text middle ys before → Behind place (xs ++ ys) out next after
two-puts place xs ys out middle next before after room em eb en ea =
    let longer = length-append xs ys in
    let first = put_behind place xs out middle before (omega arith) em eb in
    let sized = length_behind place xs out before (omega arith) first in
    then_behind place xs ys out middle next before after (omega arith) first (put_behind middle ys before next after (omega (arith, first.0)) en ea)

pub returns : goal.returns
returns c =
    let a = c.args in
    let both =
    two-puts a.place a.word.now (decimal a.n) a.out.now _ _ _ _ (omega arith) c.put-number_at.ensures.value c.put-number_at.ensures.out_after
    c.put_decimal.ensures.value c.put_decimal.ensures.out_after
    in
    record { value = both.0; out_after = both.1 }
