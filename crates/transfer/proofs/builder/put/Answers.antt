-- `put` meets its contract: the header is not refused, so it is written into the first four bytes, the packet is copied right behind it, and both writes are
-- one write of the packet behind its header. Assumes nothing.
use Prim.Native.Nat.{ℕ, ◌+◌, ◌-◌, ◌≤◌}
use mathlib.Core.Path.{◌≡◌, ◌∙◌, ap, refl}
use mathlib.Core.List.{List, ◌++◌}
use native.Mathlib.Omega.{arith}
use lib.ListN.{drop, length, take}
use lib.Seq.{length-take-le}
use borrow.Author.Tests.{eq-eqb, le-leb}
use borrow.Rule.Slice.PartMut.{put_mid}
use Rattle.std.specs.Prelude.{Result, Ok, ⊤}
use Rattle.checks.specs.Output.{at_start, put_at}
use Rattle.checks.proofs.Output.{length_start, put_copied, put_put}
use Rattle.usb.specs.declared.head.HeaderError.{HeaderError}
use Rattle.usb.specs.Header.{framed, headed_answer, header_answer, header_of, header_output, header_size, packet_most}
use Rattle.usb.proofs.Answers.{same_headed}
use Rattle.transfer.proofs.builder.put.Goals as goal

-- the header is not refused, so its bytes are there
header-done : (size room : ℕ) (r : Result ⊤ HeaderError) → room ≡ header_size → size ≤ packet_most → headed_answer r ≡ header_answer size room → r ≡ Ok tt
unfolding header_answer
header-done size room r h k e = same_headed r (Ok tt) (e ∙ simp (eq-eqb room header_size h, le-leb size packet_most k))

-- both writes are one
both-written : (packet part head tail : List ℕ) (r : Result ⊤ HeaderError) → header_size + length packet ≤ length part
    → r ≡ Ok tt → head ≡ header_output r (length packet) (take header_size part)
    → tail ≡ at_start (take (length (take (header_size + length packet - header_size) (drop header_size (head ++ drop header_size part)))) packet)
    (take (header_size + length packet - header_size) (drop header_size (head ++ drop header_size part)))
    → put_mid header_size (header_size + length packet - header_size) (head ++ drop header_size part) tail ≡ at_start (framed packet) part
unfolding header_output
both-written packet part head tail r room e w t =
    let header = header_of (length packet) in
    let headed : head ≡ header = w ∙ ap (λ (r : Result ⊤ HeaderError). header_output r (length packet) (take header_size part)) e in
    let out = head ++ drop header_size part in
    let started : out ≡ at_start header part = ap (λ (h : List ℕ). h ++ drop header_size part) headed in
    let long : header_size + (header_size + length packet - header_size) ≤ length out =
    omega (arith, ap length started, length_start header part (omega arith))
    in
    put_copied header_size (header_size + length packet - header_size) packet out tail long (omega arith) t
    ∙ ap (put_at header_size packet) started
    ∙ put_put 0 header packet part (omega arith)

pub unwrap-requires : goal.unwrap-requires
unwrap-requires c =
    let h = header-done (length c.args.packet.now) _ c.header.result (length-take-le header_size c.args.part.now (omega arith)) (omega arith) c.header.ensures.result_value in
    rw h refl

pub returns : goal.returns
returns c =
    let a = c.args in
    both-written a.packet.now a.part.now c.header.new.out c.copy_over.new.part c.header.result (omega arith)
    c.unwrap.ensures c.header.ensures.out_after c.copy_over.ensures
