-- `part_at` meets its contract: what a walk finds lies in the transfer. Assumes nothing.
use native.Mathlib.Omega.{arith}
use Rattle.transfer.proofs.WalkLaws.{walked_inside}
use Rattle.transfer.proofs.walker.part_at.Goals as goal

pub overflow_add-start : goal.overflow_add-start
overflow_add-start c = omega (arith, walked_inside _ _ _ c.in-Ok-Some.ensures c.in-Ok-Some.field-0-is)

pub overflow_add-result : goal.overflow_add-result
overflow_add-result c = omega (arith, walked_inside _ _ _ c.in-Ok-Some.ensures c.in-Ok-Some.field-0-is)

pub slice_bounds-result-end : goal.slice_bounds-result-end
slice_bounds-result-end c = omega (arith, walked_inside _ _ _ c.in-Ok-Some.ensures c.in-Ok-Some.field-0-is)
