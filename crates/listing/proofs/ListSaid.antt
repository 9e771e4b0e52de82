-- What `list` says, for a caller that was answered done. Assumes nothing.
use Prim.Native.Nat.{ℕ}
use mathlib.Core.Path.{◌≡◌, refl}
use mathlib.Core.Bool.{Bool, true, false, cond, ◌&&◌}
use mathlib.Core.List.{List, [], ◌∷◌}
use native.Mathlib.Omega.{arith}
use lib.ListN.{length}
use Rattle.std.proofs.Common.{Ok}
use Rattle.checks.specs.Numbers.{answer, done, inconsistent, short_output}
use Rattle.checks.proofs.Numbers.{same_number}
use Rattle.serial.specs.declared.receiver.Receiver.{Receiver}
use Rattle.serial.specs.Receiver.{consistent_of, fresh_of}
use Rattle.serial.specs.Run.{heard, run_of}
use Rattle.listing.specs.Listing.{lines_answer, list_answer, listed, roomy, state_after}
use Rattle.listing.specs.Text.{lines_of}

-- all of the input was fed, and all of its packets are listed
pub done_all : (input : List ℕ) (room : ℕ) (s : Receiver) (n : ℕ) → lines_answer (Ok n) ≡ list_answer input room s
    → (state_after input room s ≡ run_of s input) × (listed input room s ≡ heard s input)
unfolding list_answer listed state_after
done_all input room s n e = go (consistent_of s) (roomy (length input) room) (same_number e)
  where
    go : (c r : Bool) → done ≡ (cond c (cond r (answer done (length (lines_of (heard s input)) ∷ [])) (answer short_output [])) (answer inconsistent [])).number
        → (cond c (cond r (run_of s input) s) fresh_of ≡ run_of s input) × (cond (c && r) (heard s input) [] ≡ heard s input)
    go true true k = (refl, refl)
    go true false k = absurd (omega arith)
    go false r k = absurd (omega arith)
