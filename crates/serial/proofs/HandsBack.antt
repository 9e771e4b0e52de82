-- What the receiver's functions hand back is consistent, whatever state they were given: it goes on from a consistent one, and is fresh after any other.
-- Assumes nothing.
use Prim.Native.Nat.{ℕ, ◌<◌}
use mathlib.Core.Path.{◌≡◌, refl, subst, sym}
use mathlib.Core.Bool.{Bool, true, false}
use mathlib.Core.List.{List}
use lib.ListN.{length, take}
use Rattle.checks.specs.Laws.{Bytes}
use Rattle.checks.proofs.Bytes.{bytes_take}
use Rattle.serial.specs.declared.receiver.Receiver.{Receiver}
use Rattle.serial.specs.Consistency.{Consistent}
use Rattle.serial.specs.Receiver.{consistent_of, step_of}
use Rattle.serial.specs.Taker.{taken_of}
use Rattle.serial.proofs.Steps.{count_is_steps}
use Rattle.serial.proofs.Keeps.{fresh_consistent, keeps, run_keeps}

module _ (s : Receiver) (sized : length s.stored ≡ 259) where
  pub step_hands_back : (b : ℕ) → b < 256 → Consistent (step_of b s).state
  unfolding step_of
  step_hands_back b byte = go (consistent_of s) refl
    where
      go : (t : Bool) → consistent_of s ≡ t → Consistent (step_of b s).state
      go true e = keeps s b (record { sized = sized; fits = e }) byte
      go false e = simp e fresh_consistent

  pub taker_hands_back : (input : List ℕ) (allowance room : ℕ) → Bytes input → Consistent (taken_of input allowance room s).state
  unfolding taken_of
  taker_hands_back input allowance room bytes = go (consistent_of s) refl
    where
      go : (t : Bool) → consistent_of s ≡ t → Consistent (taken_of input allowance room s).state
      go true e =
          let here : Consistent s = record { sized = sized; fits = e } in
          let steps = count_is_steps input allowance room s here in
          let n = (taken_of input allowance room s).taken in
          subst Consistent (sym steps.state) (run_keeps s (take n input) here (bytes_take n input bytes))
      go false e = simp e fresh_consistent
