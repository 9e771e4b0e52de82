-- `receive::Line::list_on` meets its contract: `list` fed all of the bytes to the receiver that the last read left. Assumes nothing.
use Prim.Native.Nat.{ℕ}
use mathlib.Core.Path.{◌≡◌, ◌∙◌, ap, sym}
use mathlib.Core.List.{List}
use lib.ListN.{length}
use Rattle.std.proofs.Common.{Ok, rules}
use Rattle.listing.specs.declared.lines.Listed.{Listed}
use Rattle.listing.specs.Listing.{lines_answer, list_answer, listed, state_after}
use Rattle.listing.proofs.ListSaid.{done_all}
use Rattle.receive.specs.declared.Line.{Line}
use Rattle.receive.specs.Follow.{total_of, with_bytes}
use Rattle.receive.proofs.Line.list_on.Goals as goal

-- answered done, the line goes on with the bytes
bytes-listed : (line : Line) (input : List ℕ) (room n bytes packets : ℕ) (l : Listed) → l.answer ≡ Ok n
    → lines_answer l.answer ≡ list_answer input room line.receiver
    → l.packets ≡ length (listed input room line.receiver) → l.state ≡ state_after input room line.receiver
    → bytes ≡ total_of line.bytes (length input) → packets ≡ total_of line.packets l.packets
    → record { receiver = l.state; bytes = bytes; packets = packets } ≡ with_bytes input line
bytes-listed line input room n bytes packets l e ea ep es eb ec =
    let all = done_all input room line.receiver n (sym (ap lines_answer e) ∙ ea) in
    let receiver = es ∙ all.0 in
    let count = ec ∙ ap (total_of line.packets) (ep ∙ ap length all.1) in
    λ i. record { receiver = receiver i; bytes = eb i; packets = count i }

pub returns : goal.returns
returns g c =
    let a = c.args in
    let e = c.list-listed.ensures in
    bytes-listed a.self.now a.input.now (length a.text.now) c.in_ok-size.size _ _ c.list-listed.result (search rules) e.answer_value e.packets_value
    e.state_value c.saturating_add-self.ensures c.saturating_add-self-2.ensures
