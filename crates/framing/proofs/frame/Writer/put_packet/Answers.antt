-- A turn puts one byte more, escaped, for which there is room since the whole has room. Assumes nothing.
use Rattle.std.proofs.Common.{◌+◌, [], ◌∷◌, arith, ap, get_or, length, length-append, take}
use Rattle.framing.specs.Frame.{escaped, escaped_all}
use Rattle.std.proofs.lemmas.List.{take_more}
use Rattle.framing.proofs.Writing.{escaped_more, escaped_room, wrote_nothing, wrote_then}
use Rattle.framing.proofs.frame.Writer.put_packet.Goals as goal

pub loop-b-init : goal.loop-b-init
unfolding escaped_all
loop-b-init c = wrote_nothing c.args.self.now (omega arith)

pub put_escaped-requires : goal.put_escaped-requires
put_escaped-requires c =
    let packet = c.args.packet.now in
    let i = c.loop-b.b-index in
    let more = ap length (escaped_more packet i (omega arith)) in
    omega (arith, c.loop-b.invariant.place, c.loop-b.invariant.same_length, more, length-append (escaped_all (take i packet)) (escaped (get_or packet i 0)), escaped_room packet (i + 1))

pub loop-b-preserved : goal.loop-b-preserved
loop-b-preserved c =
    let packet = c.args.packet.now in
    let i = c.loop-b.b-index in
    rw (escaped_more packet i (omega arith), take_more packet i 0 (omega arith))
    (wrote_then c.args.self.now c.loop-b.self c.put_escaped.new.self (escaped_all (take i packet)) (escaped (get_or packet i 0)) (take i packet) (get_or packet i 0 ∷ []) (omega (arith, escaped_room packet i)) c.loop-b.invariant c.put_escaped.ensures)
