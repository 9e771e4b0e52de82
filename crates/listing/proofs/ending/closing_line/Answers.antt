-- `listing::ending::closing_line` meets its contract: what is put, one right behind the other, is one put of all its bytes, and those are the closing
-- line. Assumes nothing.
use Prim.Native.Nat.{ℕ, ◌+◌, ◌≤◌}
use mathlib.Core.Path.{◌≡◌, ◌∙◌, ap}
use mathlib.Core.List.{List, [], ◌∷◌, ◌++◌, append_assoc}
use native.Mathlib.Nat.{zero-add}
use native.Mathlib.Omega.{arith}
use lib.ListN.{length, length-append}
use borrow.Author.Rules.{rules}
use Rattle.checks.specs.Output.{at_start}
use Rattle.text.specs.Decimal.{decimal}
use Rattle.text.specs.Hex.{line_feed}
use Rattle.text.specs.Put.{put_end, put_text}
use Rattle.text.proofs.DecimalLaws.{length_digits}
use Rattle.text.proofs.PutLaws.{Behind, length_behind, put_behind, then_behind}
use Rattle.listing.specs.Closing.{closing_line, end_bytes, packets_word}
use Rattle.listing.proofs.ending.closing_line.Goals as goal

-- the two parts of the line, each of a word and a number; the second has its room behind the first
module _ (bytes packets : ℕ) (out : List ℕ) (room : 61 ≤ length out) where
  abbrev front : List ℕ
  front = end_bytes ++ decimal bytes

  abbrev back : List ℕ
  back = packets_word ++ decimal packets

  front-room : 0 + length front ≤ length out
  front-room = omega (arith, length_digits 20 bytes)

  module _ (p : ℕ) (o : List ℕ) (b : Behind 0 front out p o) where
    sized : length o ≡ length out
    sized = length_behind 0 front out o front-room b

    back-room : p + length back ≤ length o
    back-room = omega (arith, b.0, sized, length_digits 20 bytes, length_digits 20 packets)

    -- and behind both the line feed
    line-behind : (q next : ℕ) (u after : List ℕ) → Behind p back o q u
        → next ≡ put_end q (line_feed ∷ []) (length u) → after ≡ put_text q (line_feed ∷ []) u
        → (next ≡ length (closing_line bytes packets)) × (after ≡ at_start (closing_line bytes packets) out)
    line-behind q next u after c en ea =
        let both = then_behind 0 front back out p q o u front-room b c in
        let longer = length-append front back in
        let most : 0 + length (front ++ back) ≤ length out = omega (arith, length_digits 20 bytes, length_digits 20 packets) in
        let held = length_behind 0 (front ++ back) out u most both in
        let feed = put_behind q (line_feed ∷ []) u next after (omega (arith, both.0, length_digits 20 bytes, length_digits 20 packets)) en ea in
        let all = then_behind 0 (front ++ back) (line_feed ∷ []) out q next u after most both feed in
        let same : (front ++ back) ++ (line_feed ∷ []) ≡ closing_line bytes packets =
        append_assoc front back (line_feed ∷ []) ∙ append_assoc end_bytes (decimal bytes) (back ++ (line_feed ∷ []))
        ∙ ap (λ (xs : List ℕ). end_bytes ++ (decimal bytes ++ xs)) (append_assoc packets_word (decimal packets) (line_feed ∷ []))
        in
        (all.0 ∙ zero-add _ ∙ ap length same, all.1 ∙ ap (λ (xs : List ℕ). at_start xs out) same)

pub put_count-packets_at-requires : goal.put_count-packets_at-requires
put_count-packets_at-requires c =
    let a = c.args in
    front-room a.bytes a.packets a.out.now (search rules)

pub put_count-end-requires : goal.put_count-end-requires
put_count-end-requires c =
    let a = c.args in
    let first = c.put_count-packets_at.ensures in
    back-room a.bytes a.packets a.out.now (search rules) _ _ (first.value, first.out_after)

pub returns : goal.returns
returns c =
    let a = c.args in
    let first = c.put_count-packets_at.ensures in
    let second = c.put_count-end.ensures in
    let line =
    line-behind a.bytes a.packets a.out.now (search rules) _ _ (first.value, first.out_after) _ _ _ _ (second.value, second.out_after)
    c.put.ensures.value c.put.ensures.out_after
    in
    record { prefix_len = c.put.ensures.prefix_len; value = line.0; out_after = line.1 }
