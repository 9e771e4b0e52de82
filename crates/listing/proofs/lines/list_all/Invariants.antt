use lib.ListN.{length}
use Rattle.listing.proofs.Going.{Going}
use Rattle.listing.proofs.lines.list_all.Given as goal

abbrev pub invariant-loop-rest : goal.invariant-loop-rest
invariant-loop-rest l = Going l.fn.input l.initial.out l.initial.state l.out l.state l.rest l.used l.packets

abbrev pub decreases-loop-rest : goal.decreases-loop-rest
decreases-loop-rest l = length l.rest
