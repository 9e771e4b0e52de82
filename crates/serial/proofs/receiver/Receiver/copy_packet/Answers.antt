-- `copy_packet` meets its contract: a packet's n bytes, at most 255, are the part of the stored bytes from place 2 on that is copied; for any other
-- reason the output stays. Assumes nothing.
use Prim.Native.Nat.{ℕ, ◌+◌, ◌-◌, ◌≤◌}
use mathlib.Core.Path.{◌≡◌, ◌∙◌, ap, subst, sym}
use mathlib.Core.List.{List, ◌++◌}
use native.Mathlib.Omega.{arith}
use lib.ListN.{drop, length, length-drop, take}
use lib.Seq.{length-take-le}
use Rattle.std.proofs.Common.{Ok, rules}
use Rattle.checks.proofs.Output.{copied_whole}
use Rattle.serial.specs.declared.taker.Stop.{Stop}
use Rattle.serial.specs.Taker.{IsPacketSize, copied_of}
use Rattle.serial.proofs.receiver.Receiver.copy_packet.Goals as goal

pub returns-in-Packet : goal.returns-in-Packet
unfolding copied_of
returns-in-Packet c =
    let a = c.args in
    let n = c.in-Packet.n in
    let from-two = drop 2 a.self.now.stored in
    let few : n ≤ 255 = subst IsPacketSize c.in-Packet.is c.requires.0 in
    let sized : length a.self.now.stored ≡ 259 = search rules in
    let size : n + 2 - 2 ≡ n = omega arith in
    let part : length (take n from-two) ≡ n = length-take-le n from-two (omega (arith, length-drop 2 a.self.now.stored)) in
    let room : length (take n a.out.now) ≡ n = length-take-le n a.out.now (omega arith) in
    let same : length (take n a.out.now) ≡ length (take (n + 2 - 2) from-two) = room ∙ sym part ∙ ap (λ (k : ℕ). length (take k from-two)) (sym size) in
    let copied = copied_whole (take n a.out.now) (take (n + 2 - 2) from-two) _ c.copy_over.ensures same in
    ap (λ (new : List ℕ). new ++ drop n a.out.now) (copied ∙ ap (λ (k : ℕ). take k from-two) size)
    ∙ ap (λ (k : ℕ). take n from-two ++ drop k a.out.now) (sym part)
    ∙ ap (λ (why : Stop). copied_of (Ok why) a.self.now a.out.now) (sym c.in-Packet.is)
