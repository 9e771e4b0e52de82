-- Laws of what a walk answers at a place: where it finds a packet, decode accepts what stands from there on, since the tests before it were passed. And
-- what a caller of `walk_at` knows that has matched on a packet. Assumes nothing.
use Prim.Native.Nat.{ℕ, ◌+◌, ◌≤◌}
use Rattle.std.specs.Prelude.{Option, Some, Ok}
use mathlib.Core.Path.{◌≡◌, ◌∙◌, ap, refl, sym}
use mathlib.Core.Bool.{Bool, true, false, cond}
use mathlib.Core.List.{List, [], ◌∷◌}
use native.Mathlib.Omega.{arith}
use lib.Dec.{eqb, ltb}
use lib.ListN.{length, drop, length-drop}
use borrow.Author.Tests.{ltb-false}
use Rattle.checks.specs.Numbers.{answer, done}
use Rattle.checks.proofs.Numbers.{same_values}
use Rattle.usb.specs.Decode.{decode_answer}
use Rattle.usb.specs.Header.{header_size}
use Rattle.usb.specs.Numbers.{rx_failure}
use Rattle.usb.proofs.DecodeLaws.{accepted, refused}
use Rattle.transfer.specs.Walk.{walk_answer, walked_answer}

-- the end is not a packet
pub ended : {C : Type 0} (n : ℕ) → answer done [] ≡ answer done (n ∷ []) → C
ended n e = absurd (omega (arith, ap length (same_values e)))

-- a place at which a walk finds a packet of n bytes: decode accepts what stands from there on, and header and packet lie in the transfer
pub record FoundAt (transfer : List ℕ) (place n : ℕ) : Type 0 where
  pub inside : place + (header_size + n) ≤ length transfer
  pub decoded : decode_answer (drop place transfer) ≡ answer done (n ∷ [])

pub found : (transfer : List ℕ) (place n : ℕ) → walk_answer transfer place ≡ answer done (n ∷ []) → FoundAt transfer place n
unfolding walk_answer
found s p n e = go (ltb (length s) p) (eqb p (length s)) refl e
  where
    go : (beyond end : Bool) → ltb (length s) p ≡ beyond
        → cond beyond (answer rx_failure []) (cond end (answer done []) (decode_answer (drop p s))) ≡ answer done (n ∷ []) → FoundAt s p n
    go true end h e = refused n e
    go false true h e = ended n e
    go false false h e =
        let place : p ≤ length s = ltb-false (length s) p h in
        record { inside = omega (arith, (accepted (drop p s) n e).fits, length-drop p s); decoded = e }

-- where `walk_at` gave a packet of n bytes, header and packet lie in the transfer
pub walked_inside : {o : Option ℕ} (transfer : List ℕ) (place n : ℕ) → walked_answer (Ok o) ≡ walk_answer transfer place → o ≡ Some n
    → place + (header_size + n) ≤ length transfer
walked_inside transfer place n e t = (found transfer place n (sym e ∙ ap (λ (o : Option ℕ). walked_answer (Ok o)) t)).inside
