-- `framing::Writer::put_checked` does what its contract says: the byte is put, and then checked. Assumes nothing.
use Rattle.std.proofs.Common.{[], ◌∷◌}
use Rattle.framing.proofs.Writing.{covered_last}
use Rattle.framing.proofs.frame.Writer.put_checked.Goals as goal

pub returns : goal.returns
returns c = covered_last c.args.self.now c.put.new.self c.args.b _ (c.args.b ∷ []) c.put.ensures c.frame_next-self.ensures
