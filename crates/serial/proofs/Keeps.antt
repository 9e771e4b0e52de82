-- A step keeps a state consistent: each row leaves what the next position asks for. The state's list has the array's 259 bytes and b is a
-- byte, which the spec's record does not say by itself. Assumes nothing.
use Prim.Native.Nat.{ℕ, suc, ◌+◌, ◌<◌, ◌≤◌}
use mathlib.Core.Path.{◌≡◌, ◌∙◌, ap, refl, sym, subst}
use mathlib.Core.Logic.{◌≢◌}
use mathlib.Core.Bool.{Bool, cond}
use mathlib.Core.List.{List, [], ◌∷◌}
use native.Mathlib.Omega.{arith}
use lib.Dec.{eqb}
use Rattle.std.proofs.Common.{Err}
use lib.ListN.{length, get_or, set, length-replicate, length-set}
use lib.Seq.{get_or-set_other, get_or-set_same}
use borrow.Author.Tests.{eqb-false, eqb-true}
use Rattle.checks.specs.Laws.{Bytes}
use Rattle.checks.specs.Numbers.{answer, done}
use Rattle.checks.proofs.Choice.{by_cond}
use Rattle.checks.proofs.Numbers.{same_number}
use Rattle.serial.specs.declared.receiver.Position.{Position}
use Rattle.serial.specs.declared.receiver.Position.TheVariants.{FrameSearch, SerialRevision, ByteCount, Data, DataEscaped, Check, FrameEnd}
use Rattle.serial.specs.declared.receiver.Receiver.{Receiver}
use Rattle.serial.specs.declared.receiver.Stepped.{Stepped}
use Rattle.framing.specs.Frame.{flag, escape, flag_escaped, escape_escaped, revision}
use Rattle.serial.specs.Receiver.{byte_count_row, check_row, data_escaped_row, data_row, frame_end_row, frame_search_row, fresh_of, hands_out, move_to, row_of, serial_revision_row, step_of, store_data}
use Rattle.serial.specs.Run.{run_by, run_of}
use Rattle.serial.specs.Answers.{handed_at, outcome_answer}
use Rattle.serial.specs.Consistency.{Consistent, NeverInconsistent, ReachableConsistent, StepKeeps}
use Rattle.serial.proofs.Answers.{step_answered}
use Rattle.serial.proofs.Consistent.{Counted, FitsAt, facts, holds, row-of}

-- a byte stored behind the count leaves revision and count as they are
counted_stored : (n l b : ℕ) (stored : List ℕ) → 2 ≤ l → Counted n stored → Counted n (set stored l b)
counted_stored n l b stored h f =
    record {
      some = f.some;
      revision_stored = get_or-set_other stored l 0 b 0 (omega arith) ∙ f.revision_stored;
      count_stored = get_or-set_other stored l 1 b 0 (omega arith) ∙ f.count_stored;
    }

-- the state of these parts is consistent at p
fit : (p : Position) (n l : ℕ) (stored : List ℕ) → length stored ≡ 259 → l ≤ 259 → n ≤ 255 → FitsAt p n l stored
    → Consistent (record { position = p; count = n; len = l; stored = stored })
fit p n l stored sized hl hn f = record { sized = sized; fits = holds _ (record { len_most = hl; count_most = hn; here = f }) }

-- each row, on a state that fits at its position
module _ (s : Receiver) (b : ℕ) (sized : length s.stored ≡ 259) (byte : b < 256) (l : s.len ≤ 259) (n : s.count ≤ 255) where
  -- only the position changes
  idle : (p : Position) → FitsAt p s.count s.len s.stored → Consistent (move_to p s)
  idle p f = fit p s.count s.len s.stored sized l n f

  on_search : Consistent (frame_search_row b s)
  on_search = by_cond (λ p. Consistent (move_to p s)) (eqb b flag) _ _ (λ e. idle _ tt) (λ e. idle _ tt)

  begun : (p : Position) → FitsAt p 0 1 (set s.stored 0 b)
      → Consistent (record { position = p; count = 0; len = 1; stored = set s.stored 0 b })
  begun p f = fit p 0 1 (set s.stored 0 b) (length-set s.stored 0 b ∙ sized) (omega arith) (omega arith) f

  on_revision : Consistent (serial_revision_row b s)
  on_revision =
      by_cond (λ p. Consistent (record { position = p; count = 0; len = 1; stored = set s.stored 0 b })) (eqb b revision) ByteCount (cond (eqb b flag) SerialRevision FrameSearch)
      (λ e. begun ByteCount (refl, get_or-set_same s.stored 0 b 0 (omega arith) ∙ eqb-true b revision e))
      (λ e. by_cond (λ p. Consistent (record { position = p; count = 0; len = 1; stored = set s.stored 0 b })) (eqb b flag) SerialRevision FrameSearch
      (λ e'. begun SerialRevision tt) (λ e'. begun FrameSearch tt))

  on_count : FitsAt ByteCount s.count s.len s.stored → Consistent (byte_count_row b s)
  on_count f =
      by_cond Consistent (eqb b 0) _ _
      (λ e. fit FrameSearch 0 s.len s.stored sized l (omega arith) tt)
      (λ e. let some : b ≢ 0 = eqb-false b 0 e in
      let first : get_or (set s.stored s.len b) 0 0 ≡ revision = get_or-set_other s.stored s.len 0 b 0 (omega arith) ∙ f.1 in
      let next : get_or (set s.stored s.len b) 1 0 ≡ b = rw f.0 (get_or-set_same s.stored 1 b 0 (omega arith)) in
      fit Data b (s.len + 1) (set s.stored s.len b) (length-set s.stored s.len b ∙ sized) (omega arith) (omega arith)
      (record { some = omega arith; revision_stored = first; count_stored = next }, (omega arith, omega arith)))

  -- a packet's byte c is stored, in Data and in DataEscaped alike
  on_store : (c : ℕ) → FitsAt Data s.count s.len s.stored → Consistent (store_data c s)
  on_store c f =
      let size : length (set s.stored s.len c) ≡ 259 = length-set s.stored s.len c ∙ sized in
      let kept = counted_stored s.count s.len c s.stored f.1.0 f.0 in
      by_cond (λ p. Consistent (record { position = p; count = s.count; len = s.len + 1; stored = set s.stored s.len c })) (eqb (s.len + 1) (s.count + 2)) Check Data
      (λ e. let q : s.len + 1 ≡ s.count + 2 = eqb-true _ _ e in
      fit Check _ _ _ size (omega arith) n (kept, (omega arith, omega arith)))
      (λ e. let q : s.len + 1 ≢ s.count + 2 = eqb-false _ _ e in
      fit Data _ _ _ size (omega arith) n (kept, (omega arith, omega arith)))

  on_data : FitsAt Data s.count s.len s.stored → Consistent (data_row b s)
  on_data f =
      by_cond Consistent (eqb b flag) _ _ (λ e. idle SerialRevision tt)
      (λ e. by_cond Consistent (eqb b escape) _ _ (λ e'. idle DataEscaped f) (λ e'. on_store b f))

  on_escaped : FitsAt DataEscaped s.count s.len s.stored → Consistent (data_escaped_row b s)
  on_escaped f =
      by_cond Consistent (eqb b flag_escaped) _ _ (λ e. on_store flag f)
      (λ e. by_cond Consistent (eqb b escape_escaped) _ _ (λ e'. on_store escape f) (λ e'. idle FrameSearch tt))

  on_check : FitsAt Check s.count s.len s.stored → Consistent (check_row b s)
  on_check f =
      let size : length (set s.stored s.len b) ≡ 259 = length-set s.stored s.len b ∙ sized in
      let kept = counted_stored s.count s.len b s.stored (omega arith) f.0 in
      by_cond (λ p. Consistent (record { position = p; count = s.count; len = s.len + 1; stored = set s.stored s.len b })) (eqb (s.len + 1) (s.count + 4)) FrameEnd Check
      (λ e. fit FrameEnd _ _ _ size (omega arith) n (kept, eqb-true _ _ e))
      (λ e. let q : s.len + 1 ≢ s.count + 4 = eqb-false _ _ e in
      fit Check _ _ _ size (omega arith) n (kept, (omega arith, omega arith)))

  on_end : Consistent (frame_end_row b s)
  on_end = by_cond (λ p. Consistent (move_to p s)) (eqb b flag) _ _ (λ e. idle _ tt) (λ e. idle _ tt)

  row_keeps : (p : Position) → FitsAt p s.count s.len s.stored → Consistent (row_of p b s).state
  unfolding row_of
  row_keeps FrameSearch f = on_search
  row_keeps SerialRevision f = on_revision
  row_keeps ByteCount f = on_count f
  row_keeps Data f = on_data f
  row_keeps DataEscaped f = on_escaped f
  row_keeps Check f = on_check f
  row_keeps FrameEnd f = by_cond (λ (r : Stepped). Consistent r.state) (hands_out b s) _ _ (λ e. on_end) (λ e. on_end)

pub keeps : StepKeeps
keeps s b c byte =
    let f = facts s c.fits in
    subst (λ (r : Stepped). Consistent r.state) (sym (row-of s b c.fits))
    (row_keeps s b c.sized byte f.len_most f.count_most s.position f.here)

pub run_keeps : (s : Receiver) (bytes : List ℕ) → Consistent s → Bytes bytes → Consistent (run_of s bytes)
unfolding run_by
run_keeps s [] c h = c
run_keeps s (b ∷ bs) c h = run_keeps (step_of b s).state bs (keeps s b c (h 0)) (λ i. h (suc i))

pub fresh_consistent : Consistent fresh_of
fresh_consistent = fit FrameSearch 0 0 fresh_of.stored (length-replicate {A = ℕ} 259 0) (omega arith) (omega arith) tt

pub reachable_consistent : ReachableConsistent
reachable_consistent h bytes = run_keeps fresh_of h fresh_consistent bytes

pub never_inconsistent : NeverInconsistent
never_inconsistent h b bytes =
    let s = run_of fresh_of h in
    same_number (step_answered b s (step_of b s) refl).1
    ∙ ap (λ (t : Bool). (cond t (answer done (handed_at s.position b s)) (outcome_answer (Err record {}))).number) (reachable_consistent h bytes).fits
