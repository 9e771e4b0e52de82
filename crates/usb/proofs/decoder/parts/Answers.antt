-- `parts` meets its contract: where decode gives a length, header and packet lie in the input. Assumes nothing.
use mathlib.Core.Path.{sym}
use native.Mathlib.Omega.{arith}
use Rattle.usb.proofs.DecodeLaws.{accepted}
use Rattle.usb.proofs.decoder.parts.Goals as goal

pub overflow_add-result : goal.overflow_add-result
overflow_add-result c = omega (arith, (accepted _ _ (sym c.in-Ok.ensures)).fits)

pub slice_bounds-result-end : goal.slice_bounds-result-end
slice_bounds-result-end c = omega (arith, (accepted _ _ (sym c.in-Ok.ensures)).fits)

pub slice_bounds-result-count-in-Ok : goal.slice_bounds-result-count-in-Ok
slice_bounds-result-count-in-Ok c = omega (arith, (accepted _ _ (sym c.in-Ok.ensures)).fits)

pub slice_bounds-result-start-in-Ok : goal.slice_bounds-result-start-in-Ok
slice_bounds-result-start-in-Ok c = omega (arith, (accepted _ _ (sym c.in-Ok.ensures)).fits)
