-- `listing::lines::list_next` meets its contract: the taker's promise, and the line of what it copied. Assumes nothing.
use Prim.Native.Nat.{ℕ}
use mathlib.Core.Path.{◌≡◌}
use mathlib.Core.Bool.{true}
use mathlib.Core.List.{List}
use lib.ListN.{length, length-replicate, replicate}
use borrow.Author.Rules.{rules}
use Rattle.checks.specs.Laws.{Bytes}
use Rattle.serial.specs.declared.receiver.Receiver.{Receiver}
use Rattle.serial.specs.declared.taker.Taken.{Taken}
use Rattle.serial.specs.Receiver.{consistent_of, stored_size}
use Rattle.serial.specs.Taker.{copied_of, taken_of}
use Rattle.listing.proofs.Said.{Called, copied_within, line_fits, turn_said}
use Rattle.listing.proofs.lines.list_next.Goals as goal

-- a packet's room, as it is before the call
abbrev room : List ℕ
room = replicate 255 0

-- what is known behind the call of the taker
called : (s : Receiver) (input after : List ℕ) (t : Taken) → length s.stored ≡ stored_size → consistent_of s ≡ true → Bytes input
    → t ≡ taken_of input (length input) (length room) s → after ≡ copied_of t.reason t.state room → Called s input room after t
called s input after t sized fits bytes result copied = record {
  fits = record { sized = sized; fits = fits };
  bytes = bytes;
  sized = length-replicate {A = ℕ} 255 0;
  result = result;
  copied = copied;
}

pub put_packet-line-requires : goal.put_packet-line-requires
put_packet-line-requires c =
    let a = c.args in
    let t = c.take-t in
    let k = called a.receiver a.input.now t.new.out t.result (search rules) c.requires.0 (λ i. (c.type_inv.input i).fits) t.ensures.value t.ensures.out_after in
    (copied_within k, line_fits k a.used (length a.out.now) c.requires.1)

pub returns : goal.returns
returns c =
    let a = c.args in
    let t = c.take-t in
    let k = called a.receiver a.input.now t.new.out t.result (search rules) c.requires.0 (λ i. (c.type_inv.input i).fits) t.ensures.value t.ensures.out_after in
    turn_said k a.used a.out.now c.put_packet-line.result _ c.put_packet-line.ensures.value c.put_packet-line.ensures.out_after
