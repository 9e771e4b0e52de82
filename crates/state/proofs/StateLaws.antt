-- A receiver's state as bytes: store and load undo each other, other bytes are refused, and what a call leaves is the state that the receiver's own
-- functions hand back. The statements: `specs/Laws.antt`. Assumes nothing.
use Prim.Native.Nat.{ℕ, zero, suc, ◌+◌, ◌*◌, ◌/◌, ◌%◌, ◌≤◌, ◌<◌}
use mathlib.Core.Path.{◌≡◌, ◌∙◌, ap, refl, sym}
use mathlib.Core.Bool.{Bool, true, false, ◌&&◌, false≢true}
use mathlib.Core.List.{List, [], ◌∷◌}
use native.Mathlib.Omega.{arith}
use lib.Dec.{eqb, ltb}
use lib.ListN.{drop, get_or, length, length-drop, length-replicate, length-set, set}
use lib.Seq.{get_or-set_same}
use borrow.Author.Tests.{eq-eqb, eqb-false, eqb-true, le-ltb, ltb-false, ltb-true}
use Rattle.checks.specs.Laws.{Bytes}
use Rattle.checks.proofs.Choice.{by_cond, left as both_left}
use Rattle.checks.proofs.Numbers.{same_number}
use Rattle.serial.specs.declared.receiver.Position.{Position}
use Rattle.serial.specs.declared.receiver.Position.TheVariants.{FrameSearch, SerialRevision, ByteCount, Data, DataEscaped, Check, FrameEnd}
use Rattle.serial.specs.declared.receiver.Receiver.{Receiver}
use Rattle.serial.specs.Consistency.{Consistent}
use Rattle.framing.specs.Frame.{packet_most}
use Rattle.serial.specs.Receiver.{consistent_of, fits_at, fresh_of, position_number, positions, step_of, stored_size}
use Rattle.serial.specs.Run.{run_by}
use Rattle.serial.specs.Taker.{taken_of}
use Rattle.serial.proofs.Consistent.{facts}
use Rattle.serial.proofs.HandsBack.{step_hands_back, taker_hands_back}
use Rattle.serial.proofs.Keeps.{fresh_consistent, keeps}
use Rattle.state.specs.InBuffer.{holds_state, step_answer_in, step_leaves, steps_leave, take_answer_in, take_leaves}
use Rattle.state.specs.Laws.{FreshZeros, GoesOn, HandedThere, LeavesState, LoadedStored, NoState, ShortKept, StepsRun, StoredLoaded, StoredTells, WrongSize}
use Rattle.state.specs.State.{left, loaded, no_position, no_state, sized, state_bytes, state_size, stored_at, too_large}
use Rattle.state.proofs.InBuffer.{handed_in}
use Rattle.state.proofs.State.{left_large, left_other, left_stored, loaded_known, loaded_other, loaded_unknown}

-- ---- the first byte

-- a position is had back from its number
position_back : (p : Position) → get_or positions (position_number p) FrameEnd ≡ p
position_back FrameSearch = refl
position_back SerialRevision = refl
position_back ByteCount = refl
position_back Data = refl
position_back DataEscaped = refl
position_back Check = refl
position_back FrameEnd = refl

-- which is one of the seven
number_known : (p : Position) → position_number p < no_position
number_known FrameSearch = omega arith
number_known SerialRevision = omega arith
number_known ByteCount = omega arith
number_known Data = omega arith
number_known DataEscaped = omega arith
number_known Check = omega arith
number_known FrameEnd = omega arith

-- and one of the seven numbers from its position
number_back : (n : ℕ) → n < no_position → position_number (get_or positions n FrameEnd) ≡ n
number_back zero h = refl
number_back (suc zero) h = refl
number_back (suc (suc zero)) h = refl
number_back (suc (suc (suc zero))) h = refl
number_back (suc (suc (suc (suc zero)))) h = refl
number_back (suc (suc (suc (suc (suc zero))))) h = refl
number_back (suc (suc (suc (suc (suc (suc zero)))))) h = refl
number_back (suc (suc (suc (suc (suc (suc (suc n))))))) h = absurd (omega arith)

-- ---- bytes that hold none

-- what is loaded of them is not consistent
none-held : consistent_of no_state ≡ false
unfolding consistent_of fits_at
none-held = refl

-- a buffer that holds a state has its size, and its first byte is one of the seven numbers
pub record Held (bytes : List ℕ) : Type 0 where
  pub size : length bytes ≡ state_size
  pub known : get_or bytes 0 0 < no_position

held : (bytes : List ℕ) → holds_state bytes ≡ true → Held bytes
held bytes h = of_size (eqb (length bytes) state_size) refl
  where
    none : loaded bytes ≡ no_state → Held bytes
    none e = absurd (false≢true (sym none-held ∙ ap consistent_of (sym e) ∙ h))

    of_first : (t : Bool) → ltb (get_or bytes 0 0) no_position ≡ t → length bytes ≡ state_size → Held bytes
    of_first true e size = record { size = size; known = ltb-true (get_or bytes 0 0) no_position e }
    of_first false e size = none (loaded_unknown bytes size (ltb-false (get_or bytes 0 0) no_position e))

    of_size : (t : Bool) → eqb (length bytes) state_size ≡ t → Held bytes
    of_size true e = of_first (ltb (get_or bytes 0 0) no_position) refl (eqb-true (length bytes) state_size e)
    of_size false e = none (loaded_other bytes (eqb-false (length bytes) state_size e))

-- ---- the stored length's two bytes

-- a number is had back from its two bytes
word_back : (n : ℕ) → n / 256 * 256 + n % 256 ≡ n
word_back n = omega arith

-- and the two bytes from their number: the high one
high_back : (high low : ℕ) → low < 256 → (high * 256 + low) / 256 ≡ high
high_back high low h = omega arith

-- the low one
low_back : (high low : ℕ) → low < 256 → (high * 256 + low) % 256 ≡ low
low_back high low h = omega arith

-- ---- store and load

-- whatever is loaded has a state's stored bytes
loaded_size : (bytes : List ℕ) → length (loaded bytes).stored ≡ stored_size
unfolding loaded
loaded_size bytes =
    by_cond (λ (s : Receiver). length s.stored ≡ stored_size) (sized bytes && ltb (get_or bytes 0 0) no_position) _ _
    (λ e. length-drop stored_at bytes ∙ omega (arith, eqb-true (length bytes) state_size (both_left (sized bytes) (ltb (get_or bytes 0 0) no_position) e)))
    (λ _. length-replicate {A = ℕ} stored_size 0)

-- any state is had back from its bytes
state_back : (s : Receiver) → length s.stored ≡ stored_size → loaded (state_bytes s) ≡ s
state_back s h =
    loaded_known (state_bytes s) (omega arith) (number_known s.position)
    ∙ simp (position_back s.position, word_back s.len)

-- a consistent state is not too large, so one that is too large is not consistent
not_large : (s : Receiver) → consistent_of s ≡ true → too_large s ≡ false
not_large s h =
    let f = facts s h in
    simp (le-ltb packet_most s.count f.count_most, le-ltb stored_size s.len f.len_most)

large : (s : Receiver) → too_large s ≡ true → consistent_of s ≡ false
large s h = go (consistent_of s) refl
  where
    go : (t : Bool) → consistent_of s ≡ t → consistent_of s ≡ false
    go true e = absurd (false≢true (sym (not_large s e) ∙ h))
    go false e = e

-- a buffer is its first four bytes and the rest
four_and_rest : (bytes : List ℕ) → stored_at ≤ length bytes
    → (get_or bytes 0 0 ∷ get_or bytes 1 0 ∷ get_or bytes 2 0 ∷ get_or bytes 3 0 ∷ drop stored_at bytes) ≡ bytes
four_and_rest [] h = absurd (omega arith)
four_and_rest (a ∷ []) h = absurd (omega arith)
four_and_rest (a ∷ b ∷ []) h = absurd (omega arith)
four_and_rest (a ∷ b ∷ c ∷ []) h = absurd (omega arith)
four_and_rest (a ∷ b ∷ c ∷ d ∷ rest) h = refl

-- the bytes of a buffer that holds a state are had back from that state
bytes_back : (bytes : List ℕ) → Bytes bytes → holds_state bytes ≡ true → state_bytes (loaded bytes) ≡ bytes
bytes_back bytes small h =
    let here = held bytes h in
    let high = high_back (get_or bytes 2 0) (get_or bytes 3 0) (small 3) in
    let low = low_back (get_or bytes 2 0) (get_or bytes 3 0) (small 3) in
    ap state_bytes (loaded_known bytes here.size here.known)
    ∙ simp (number_back (get_or bytes 0 0) here.known, high, low) (four_and_rest bytes (omega (arith, here.size)))

-- stored, and loaded again
pub stored_loaded : StoredLoaded
stored_loaded s c =
    let back = state_back s c.sized in
    (back, ap consistent_of back ∙ c.fits)

-- loaded, and stored again
pub loaded_stored : LoadedStored
loaded_stored bytes small h = (record { sized = loaded_size bytes; fits = h }, bytes_back bytes small h)

-- a fresh state: both sides compute to the same list
pub fresh_zeros : FreshZeros
fresh_zeros = refl

-- ---- a state in a buffer of its size

module _ (bytes : List ℕ) (size : sized bytes ≡ true) where
  room : length bytes ≡ state_size
  room = eqb-true (length bytes) state_size size

  -- a consistent state is stored
  pub stored : (s : Receiver) → consistent_of s ≡ true → left bytes s ≡ state_bytes s
  stored s fits = left_stored bytes s room (not_large s fits)

  -- and loaded again it is the one that was stored
  pub kept : (s : Receiver) → Consistent s → (loaded (left bytes s) ≡ s) × (holds_state (left bytes s) ≡ true)
  kept s c =
      let back = ap loaded (stored s c.fits) ∙ state_back s c.sized in
      (back, ap consistent_of back ∙ c.fits)

-- whatever is stored, what is loaded then is consistent where it is
pub stored_tells : StoredTells
stored_tells bytes s size h = go (too_large s) refl
  where
    go : (t : Bool) → too_large s ≡ t → holds_state (left bytes s) ≡ consistent_of s
    go true e =
        let here = room bytes size in
        let marked = set bytes 0 no_position in
        let first : get_or marked 0 0 ≡ no_position = get_or-set_same bytes 0 no_position 0 (omega arith) in
        ap holds_state (left_large bytes s here e)
        ∙ ap consistent_of (loaded_unknown marked (length-set bytes 0 no_position ∙ here) (omega arith))
        ∙ none-held
        ∙ sym (large s e)
    go false e = ap holds_state (left_stored bytes s (room bytes size) e) ∙ ap consistent_of (state_back s h)

-- ---- refusals

-- of a state's size, and no state
pub no-state : NoState
unfolding step_answer_in step_leaves take_answer_in take_leaves step_of taken_of
no-state bytes size h =
    let fresh = stored bytes size fresh_of fresh_consistent.fits in
    (λ b. (simp h, simp h fresh), λ input allowance room. (simp h, simp h fresh))

-- of another size
pub wrong_size : WrongSize
unfolding step_answer_in step_leaves take_answer_in take_leaves
wrong_size bytes h =
    let other : length bytes ≡ state_size → ⊥ = eqb-false (length bytes) state_size h in
    let none : holds_state bytes ≡ false = ap consistent_of (loaded_other bytes other) ∙ none-held in
    (λ b. (simp none, left_other bytes _ other), λ input allowance room. (simp none, left_other bytes _ other))

-- ---- what a call leaves

-- what a call leaves in a buffer of a state's size is a state
pub leaves_state : LeavesState
unfolding step_leaves take_leaves
leaves_state bytes size = (
  λ b byte. (kept bytes size _ (step_hands_back (loaded bytes) (loaded_size bytes) b byte)).1,
  λ input allowance room heard. (kept bytes size _ (taker_hands_back (loaded bytes) (loaded_size bytes) input allowance room heard)).1,
)

-- and loaded again it is the one that was handed back
pub goes_on : GoesOn
unfolding step_leaves take_leaves
goes_on bytes size = (
  λ b byte. (kept bytes size _ (step_hands_back (loaded bytes) (loaded_size bytes) b byte)).0,
  λ input allowance room heard. (kept bytes size _ (taker_hands_back (loaded bytes) (loaded_size bytes) input allowance room heard)).0,
)

-- ---- too little room

-- number 2 is answered only of a state, which is handed back as it was
pub short_kept : ShortKept
unfolding take_answer_in take_leaves taken_of
short_kept input bytes allowance room small h = of_state (consistent_of (loaded bytes)) refl
  where
    of_room : (t : Bool) → ltb room packet_most ≡ t → consistent_of (loaded bytes) ≡ true → take_leaves input allowance room bytes ≡ bytes
    of_room true e fits =
        let size : sized bytes ≡ true = eq-eqb (length bytes) state_size (held bytes fits).size in
        simp (fits, e) (stored bytes size (loaded bytes) fits ∙ bytes_back bytes small fits)
    of_room false e fits = absurd (omega (arith, same_number (simp (fits, e) at h)))

    of_state : (t : Bool) → consistent_of (loaded bytes) ≡ t → take_leaves input allowance room bytes ≡ bytes
    of_state true e = of_room (ltb room packet_most) refl e
    of_state false e = absurd (omega (arith, same_number (simp e at h)))

-- ---- a packet that was handed out

-- on a flag and from a state, so that what is left is one: the stored bytes begin at 4, and the packet 2 behind
pub handed_there : HandedThere
unfolding step_leaves
handed_there bytes b n size h =
    let byte : b < 256 = omega (arith, (handed_in b n [] bytes h).gave.on_flag) in
    let next = step_hands_back (loaded bytes) (loaded_size bytes) b byte in
    simp (h, stored bytes size (step_of b (loaded bytes)).state next.fits)

-- ---- bytes fed one by one

-- a step on a stored state leaves the bytes of the state that it leads to
one_step : (s : Receiver) (b : ℕ) → Consistent s → b < 256 → step_leaves b (state_bytes s) ≡ state_bytes (step_of b s).state
unfolding step_leaves
one_step s b c byte =
    let size : sized (state_bytes s) ≡ true = eq-eqb (length (state_bytes s)) state_size (omega (arith, c.sized)) in
    ap (λ (x : Receiver). left (state_bytes s) (step_of b x).state) (state_back s c.sized)
    ∙ stored (state_bytes s) size (step_of b s).state (keeps s b c byte).fits

-- each step goes on from the state that the one before left
pub steps_run : StepsRun
unfolding steps_leave run_by
steps_run s [] c small = refl
steps_run s (b ∷ bs) c small =
    ap (steps_leave bs) (one_step s b c (small 0)) ∙ steps_run (step_of b s).state bs (keeps s b c (small 0)) (λ i. small (suc i))
