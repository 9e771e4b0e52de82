-- `framing::Writer::put_packet` does what its contract says. The loop's invariant: what is written so far is the packet's bytes so far, escaped.
-- Assumes nothing.
use Rattle.std.proofs.Common.{take}
use Rattle.framing.specs.Frame.{escaped_all}
use Rattle.framing.specs.Writing.{Wrote}
use Rattle.framing.proofs.frame.Writer.put_packet.Given as goal

abbrev pub invariant-loop-b : goal.invariant-loop-b
invariant-loop-b l = Wrote l.initial.self l.self (escaped_all (take l.b-index l.packet)) (take l.b-index l.packet)
