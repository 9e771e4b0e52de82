-- `framing::frame::write_frame` meets its contract: its seven steps, one right behind the other, are the frame; the check goes on over the packet from where
-- the revision and the count left it, and 16 bits hold it. Assumes nothing.
use Rattle.std.proofs.Common.{◌≡◌, ◌∙◌, ◌<◌, ◌/◌, ◌%◌, [], ◌∷◌, List, ap, get_or, refl, sym, subst, ℕ, rules}
use mathlib.Core.Path.{ap₂}
use Rattle.checks.specs.Output.{at_start}
use Rattle.framing.specs.Frame.{frame}
use Rattle.framing.proofs.FrameLaws.{check_below}
use Rattle.framing.proofs.Writing.{check_split, frame_written, packet_checked}
use Rattle.framing.proofs.frame.write_frame.Goals as goal

pub overflow_cast-writer-2 : goal.overflow_cast-writer-2
overflow_cast-writer-2 c =
    let packet = c.args.packet.now in
    let e = packet_checked _ _ _ _ _ packet c.put.ensures c.put_checked.ensures c.put_checked-2.ensures c.put_packet.ensures refl in
    record { fits = subst (λ (k : ℕ). k < 65536) (sym e) (check_below packet (λ i. (c.type_inv.packet i).fits) c.requires.0) }

pub returns : goal.returns
returns c =
    let packet = c.args.packet.now in
    let e = packet_checked _ _ _ _ _ packet c.put.ensures c.put_checked.ensures c.put_checked-2.ensures c.put_packet.ensures refl in
    let small = subst (λ (k : ℕ). k < 65536) (sym e) (check_below packet (λ i. (c.type_inv.packet i).fits) c.requires.0) in
    let bytes = check_split packet c.put_packet.new.self.register small e in
    let split = c.to_be_bytes.ensures in
    let h : get_or c.to_be_bytes.result 0 0 ≡ c.put_packet.new.self.register / 256 % 256 = ap (λ (bs : List ℕ). get_or bs 0 0) split in
    let l : get_or c.to_be_bytes.result 1 0 ≡ c.put_packet.new.self.register % 256 = ap (λ (bs : List ℕ). get_or bs 1 0) split in
    let whole : c.put-4.new.self.out.now ≡ at_start (frame packet) c.args.out.now =
    frame_written _ _ _ _ _ packet c.put.ensures c.put_checked.ensures c.put_checked-2.ensures c.put_packet.ensures _ _ _ _ _ refl c.requires.1
    c.put-2.ensures c.put-3.ensures c.put-4.ensures (ap₂ (λ (x y : ℕ). x ∷ y ∷ []) h l ∙ bytes)
    in
    search rules
