-- `pulevago_usb_walk` meets its contract: a packet that `walk_at` finds lies in the transfer. Assumes nothing.
use native.Mathlib.Omega.{arith}
use Rattle.transfer.proofs.WalkLaws.{walked_inside}
use Rattle.pulevago.proofs.usb_calls.pulevago_usb_walk.Goals as goal

pub overflow_add-place : goal.overflow_add-place
overflow_add-place c = omega (arith, walked_inside _ _ _ c.in-Ok-Some.ensures c.in-Ok-Some.field-0-is)

pub overflow_add-at : goal.overflow_add-at
overflow_add-at c = omega (arith, walked_inside _ _ _ c.in-Ok-Some.ensures c.in-Ok-Some.field-0-is)

pub overflow_add-at-in-Ok-Some : goal.overflow_add-at-in-Ok-Some
overflow_add-at-in-Ok-Some c = omega (arith, walked_inside _ _ _ c.in-Ok-Some.ensures c.in-Ok-Some.field-0-is)
