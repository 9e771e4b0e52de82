-- `place_after` meets its contract: what a walk finds lies in the transfer. Assumes nothing.
use native.Mathlib.Omega.{arith}
use Rattle.transfer.proofs.WalkLaws.{walked_inside}
use Rattle.transfer.proofs.walker.place_after.Goals as goal

pub overflow_add-result : goal.overflow_add-result
overflow_add-result c = omega (arith, walked_inside _ _ _ c.in-Ok-Some.ensures c.in-Ok-Some.field-0-is)

pub overflow_add-result-in-Ok-Some : goal.overflow_add-result-in-Ok-Some
overflow_add-result-in-Ok-Some c = omega (arith, walked_inside _ _ _ c.in-Ok-Some.ensures c.in-Ok-Some.field-0-is)
