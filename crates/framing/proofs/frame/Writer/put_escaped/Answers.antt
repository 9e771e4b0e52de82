-- `framing::Writer::put_escaped` does what its contract says: the check covers the byte once it is written. Assumes nothing.
use Rattle.framing.specs.Frame.{escaped}
use Rattle.framing.proofs.Writing.{covered_last}
use Rattle.framing.proofs.frame.Writer.put_escaped.Goals as goal

pub returns : goal.returns
returns c = covered_last c.args.self.now c.put_unchecked.new.self c.args.b _ (escaped c.args.b) c.put_unchecked.ensures c.frame_next-self.ensures
