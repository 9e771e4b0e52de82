-- `pulevago_usb_decode` meets its contract: where `usb::decode` gives a packet, header and packet lie in the input. Assumes nothing.
use mathlib.Core.Path.{sym}
use native.Mathlib.Omega.{arith}
use Rattle.usb.proofs.DecodeLaws.{accepted}
use Rattle.pulevago.proofs.usb_calls.pulevago_usb_decode.Goals as goal

pub overflow_add-rest_place : goal.overflow_add-rest_place
overflow_add-rest_place c = omega (arith, (accepted _ _ (sym c.in-Ok.ensures)).fits)

pub overflow_add-rest_size : goal.overflow_add-rest_size
overflow_add-rest_size c = omega (arith, (accepted _ _ (sym c.in-Ok.ensures)).fits)

pub overflow_sub-rest_size : goal.overflow_sub-rest_size
overflow_sub-rest_size c = omega (arith, (accepted _ _ (sym c.in-Ok.ensures)).fits)
