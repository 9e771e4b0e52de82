-- `framing::Writer::put` does what its contract says: a store at the place. Assumes nothing.
use native.Mathlib.Omega.{arith}
use Rattle.framing.proofs.Writing.{wrote_byte}
use Rattle.framing.proofs.frame.Writer.put.Goals as goal

pub returns : goal.returns
returns c = wrote_byte c.args.self.now c.args.b (omega arith)
