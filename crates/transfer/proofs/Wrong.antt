-- Errors that walker and builder do not make: each would say something else of one transfer or of one packet, which is computed. Assumes nothing.
use Prim.Native.Nat.{ℕ}
use mathlib.Core.Path.{◌∙◌, ap, sym}
use mathlib.Core.List.{List}
use native.Mathlib.Omega.{arith}
use lib.ListN.{length}
use Rattle.checks.specs.Numbers.{Answer}
use Rattle.checks.proofs.Numbers.{same_number, same_value}
use Rattle.usb.specs.Decode.{decode_answer}
use Rattle.transfer.specs.declared.walker.Walker.{Walker}
use Rattle.transfer.specs.Builder.{append_answer, used_after}
use Rattle.transfer.specs.Walk.{place_after, walk_answer}
use Rattle.transfer.specs.Wrong.{NotCountedAnyway, NotEmptied, NotEndAfterFirst, NotFromStart, NotRoomFirst, NotStanding, NotUnmoved}

-- ---- the walker, over two packets

-- the second is found
pub not_end_after_first : NotEndAfterFirst
unfolding walk_answer decode_answer
not_end_after_first e = omega (arith, ap (λ (a : Answer). length a.values) e)

-- the first has six bytes with its header
pub not_unmoved : NotUnmoved
unfolding walk_answer decode_answer
not_unmoved e = omega (arith, e)

pub not_emptied : NotEmptied
not_emptied transfer some e = omega (arith, some, ap (λ (w : Walker). length w.transfer.now) e)

-- their lengths are 2 and 0
pub not_from_start : NotFromStart
unfolding walk_answer decode_answer
not_from_start transfer y e first h = omega (arith, same_value (sym first ∙ h.0 ∙ ap (λ (t : List ℕ). walk_answer t 6) e))

pub not_standing : NotStanding
not_standing transfer y e stood h =
    not_unmoved (sym (ap (λ (t : List ℕ). place_after t 0) e) ∙ ap (λ (w : Walker). w.place) (sym h.2 ∙ stood))

-- ---- the builder

-- a packet of 252 bytes, where there is no room either
pub not_room_first : NotRoomFirst
unfolding append_answer
not_room_first h = omega (arith, same_number (h 252 8 7))

-- a packet of one byte, of which there is room for the header only
pub not_counted_anyway : NotCountedAnyway
unfolding used_after append_answer
not_counted_anyway h = omega (arith, h 1 3 7)
