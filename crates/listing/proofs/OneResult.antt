-- Each public function allows one result, and leaves one content in what it is lent, by its contract as the source states it (`Reads.Post`).
-- Assumes nothing.
use Prim.Native.Nat.{ℕ}
use mathlib.Core.Path.{◌≡◌, ◌∙◌, ap, ap₂, refl, sym}
use mathlib.Core.Bool.{cond}
use lib.Dec.{eqb}
use lib.ListN.{get_or}
use Rattle.std.proofs.Common.{Ok, Err}
use Rattle.checks.specs.Numbers.{Answer, done, short_output}
use Rattle.checks.specs.OneResult.{OneOutcome}
use Rattle.checks.proofs.Numbers.{tells}
use Rattle.serial.specs.declared.receiver.Receiver.{Receiver}
use Rattle.serial.specs.declared.taker.TakeError.TheVariants.{Inconsistent, ShortOutput}
use Rattle.listing.specs.declared.lines.Listed.{Listed}
use Rattle.listing.specs.Listing.{Lines, lines_answer}
use Rattle.listing.proofs.ending.closing_line.Kinds as closing-line
use Rattle.listing.proofs.ending.closing_line.Reads as closing-line-reads
use Rattle.listing.proofs.lines.list.Kinds as list
use Rattle.listing.proofs.lines.list.Reads as list-reads

-- the output is the last parameter
pub closing_line_one : OneOutcome 1 closing-line.ps closing-line.r (λ κs e. e.1.1.0.now) closing-line-reads.Post
closing_line_one κs a x y e f p q = (p.1.0 ∙ sym q.1.0, p.1.1 ∙ sym q.1.1)

-- the result, back from its answer
abbrev back : Answer → Lines
back a = cond (eqb a.number done) (Ok (get_or a.values 0 0)) (cond (eqb a.number short_output) (Err ShortOutput) (Err Inconsistent))

there_and_back : (x : Lines) → back (lines_answer x) ≡ x
there_and_back (Ok n) = refl
there_and_back (Err ShortOutput) = refl
there_and_back (Err Inconsistent) = refl

same_lines : (x y : Lines) → lines_answer x ≡ lines_answer y → x ≡ y
same_lines = tells lines_answer back there_and_back

same_listed : (x y : Listed) → x.answer ≡ y.answer → x.packets ≡ y.packets → x.state ≡ y.state → x ≡ y
same_listed x y ea ep es =
    ap₂ (λ (a : Lines) (n : ℕ). record { answer = a; packets = n; state = x.state }) ea ep
    ∙ ap (λ (s : Receiver). record { answer = y.answer; packets = y.packets; state = s }) es

pub list_one : OneOutcome 2 list.ps list.r (λ κs e. e.1.1.0.now) list-reads.Post
list_one κs a x y e f p q = (
  same_listed x y (same_lines x.answer y.answer (p.0 ∙ sym q.0)) (p.1.1.0 ∙ sym q.1.1.0) (p.1.1.1.0 ∙ sym q.1.1.1.0),
  p.1.1.1.1 ∙ sym q.1.1.1.1,
)
