-- `text::hex::put_pairs` meets its contract. The loop's invariant: to put the bytes of what is left of the text from the place on makes the output that
-- is promised. A turn stores the byte of the first pair of what is left. Assumes nothing.
use mathlib.Core.Path.{◌∙◌}
use native.Mathlib.Omega.{arith}
use lib.ListN.{length-set}
use Rattle.text.proofs.ReadLaws.{pair_turn}
use Rattle.text.proofs.hex.put_pairs.Goals as goal

pub loop-i-preserved : goal.loop-i-preserved
loop-i-preserved c = (
  simp length-set c.loop-i.invariant.0,
  pair_turn c.args.text.now c.loop-i.i c.loop-i.out _ (omega arith) (omega arith) c.pair_at.ensures ∙ c.loop-i.invariant.1,
)
