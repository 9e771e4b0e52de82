-- Laws of the definitions of a state's bytes, by their tests: what is loaded from a buffer, and what a stored state leaves there. Assumes nothing.
use Prim.Native.Nat.{ℕ, ◌≤◌, ◌<◌}
use mathlib.Core.Path.{◌≡◌, ◌∙◌, refl, sym}
use mathlib.Core.Logic.{⊎_elim}
use Rattle.std.proofs.Common.{None, Some}
use Rattle.std.specs.List.{slice_get}
use Rattle.std.proofs.lemmas.Option.{slice_get_cases}
use mathlib.Core.Bool.{Bool, true, false, ◌||◌, false≢true}
use mathlib.Core.List.{List}
use lib.Dec.{ltb}
use lib.ListN.{get_or, length, set}
use borrow.Author.Tests.{eq-eqb, le-ltb, lt-ltb, ltb-false, ne_eqb}
use Rattle.serial.specs.declared.receiver.Receiver.{Receiver}
use Rattle.framing.specs.Frame.{packet_most}
use Rattle.serial.specs.Receiver.{positions, stored_size}
use Rattle.state.specs.State.{left, loaded, no_position, no_state, state_bytes, state_of, state_size, too_large}

module _ (bytes : List ℕ) where
  -- ---- what is loaded

  pub loaded_other : (length bytes ≡ state_size → ⊥) → loaded bytes ≡ no_state
  unfolding loaded
  loaded_other h = simp (ne_eqb (length bytes) state_size h)

  pub loaded_unknown : length bytes ≡ state_size → no_position ≤ get_or bytes 0 0 → loaded bytes ≡ no_state
  unfolding loaded
  loaded_unknown h k = simp (eq-eqb (length bytes) state_size h, le-ltb (get_or bytes 0 0) no_position k)

  pub loaded_known : length bytes ≡ state_size → get_or bytes 0 0 < no_position → loaded bytes ≡ state_of bytes
  unfolding loaded
  loaded_known h k = simp (eq-eqb (length bytes) state_size h, lt-ltb (get_or bytes 0 0) no_position k)

  -- ---- what is left

  pub left_other : (s : Receiver) → (length bytes ≡ state_size → ⊥) → left bytes s ≡ bytes
  unfolding left
  left_other s h = simp (ne_eqb (length bytes) state_size h)

  pub left_large : (s : Receiver) → length bytes ≡ state_size → too_large s ≡ true → left bytes s ≡ set bytes 0 no_position
  unfolding left
  left_large s h k = simp (eq-eqb (length bytes) state_size h, k)

  pub left_stored : (s : Receiver) → length bytes ≡ state_size → too_large s ≡ false → left bytes s ≡ state_bytes s
  unfolding left
  left_stored s h k = simp (eq-eqb (length bytes) state_size h, k)

-- a state that is not too large
neither : (a b : Bool) → (a || b) ≡ false → (a ≡ false) × (b ≡ false)
neither true b h = absurd (false≢true (sym h))
neither false b h = (refl, h)

pub small : (s : Receiver) → too_large s ≡ false → (s.count ≤ packet_most) × (s.len ≤ stored_size)
small s h =
    let both = neither (ltb packet_most s.count) (ltb stored_size s.len) h in
    (ltb-false packet_most s.count both.0, ltb-false stored_size s.len both.1)

-- a number that no position has
pub unknown : (n : ℕ) → slice_get positions n ≡ None → no_position ≤ n
unknown n h =
    ⊎_elim (λ some. let e : None ≡ Some some.0 = sym h ∙ some.2 in cc) (λ past. past.0) (slice_get_cases positions n).1
