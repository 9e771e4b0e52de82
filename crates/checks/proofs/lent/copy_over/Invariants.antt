-- `checks::copy_over` meets its contract. The loop's invariant: the bytes up to the place are copied, and those behind it still stand. Assumes nothing.
use Rattle.std.proofs.Common.{◌≡◌, take}
use Rattle.checks.specs.Output.{at_start}
use Rattle.checks.proofs.lent.copy_over.Given as goal

abbrev pub invariant-loop-i : goal.invariant-loop-i
invariant-loop-i l = l.part ≡ at_start (take l.i l.bytes) l.initial.part
