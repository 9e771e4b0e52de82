-- Demand 3. Three flags lead from any consistent state to one where the next flag opens a frame: Check takes two at most for check bytes, and
-- FrameEnd one. From there `proofs/FrameHeard.antt` has the frames, by the table, which is what a consistent state runs by. Two flags fail, as
-- case N shows: both are taken for check bytes, and FrameEnd takes the frame's opening flag. Assumes nothing.
use Prim.Native.Nat.{ℕ, zero, suc, ◌+◌, ◌≤◌}
use mathlib.Core.Path.{◌≡◌, ◌∙◌, refl, subst, sym}
use mathlib.Core.Bool.{Bool, cond}
use mathlib.Core.Logic.{◌≢◌, inl, inr}
use mathlib.Core.List.{List, [], ◌∷◌, ◌++◌}
use native.Mathlib.Nat.{zero-add}
use native.Mathlib.Omega.{arith}
use lib.Dec.{eqb}
use lib.ListN.{length, set}
use borrow.Author.Tests.{eq-eqb, eqb-false}
use Rattle.checks.specs.Laws.{Bytes}
use Rattle.checks.specs.Register.{bit_step, bit_steps, byte_step, check_from}
use Rattle.checks.proofs.Choice.{by_cond}
use Rattle.checks.proofs.Bytes.{bytes_each, bytes_replicate}
use Rattle.serial.specs.declared.receiver.Position.{Position}
use Rattle.serial.specs.declared.receiver.Position.TheVariants.{FrameSearch, SerialRevision, ByteCount, Data, DataEscaped, Check, FrameEnd}
use Rattle.serial.specs.declared.receiver.Receiver.{Receiver}
use Rattle.serial.specs.declared.receiver.Stepped.{Stepped}
use Rattle.framing.specs.Computed.{ending}
use Rattle.line.specs.Lost.{losing}
use Rattle.framing.specs.Frame.{Sendable, escaped, escaped_all, flag, frame, frames}
use Rattle.serial.specs.Receiver.{agrees_of, changed, consistent_of, fits_at, fresh_of, move_to, row_of, step_of}
use Rattle.serial.specs.Run.{Step, outs_by, outs_of, run_by, run_of}
use Rattle.serial.specs.Consistency.{Consistent}
use Rattle.line.specs.Demand3.{Demand3, Demand3Whole, Hears, HearsAfterBy, HearsFromAny, HearsFromOpen, Open, TwoFail, flags, placed}
use Rattle.serial.proofs.Consistent.{FitsAt, facts}
use Rattle.line.proofs.Ending.{ending_sent}
use Rattle.line.proofs.FrameHeard.{at_own, frames_give}
use Rattle.framing.proofs.FrameLaws.{frames_bytes}
use Rattle.serial.proofs.Keeps.{reachable_consistent, run_keeps}
use Rattle.serial.proofs.Run.{outs_append, run_append}
use Rattle.serial.proofs.Table.{table-outs, table-run, table_run}

-- ---- flags

-- k flags lead to where the next one opens a frame
abbrev Opens : ℕ → Receiver → Type 0
Opens k s = Open (table_run s (flags k))

module _ (s : Receiver) where
  -- more flags do no harm, from where the next one opens a frame already
  from_revision : (k n l : ℕ) (xs : List ℕ) → Opens k (changed SerialRevision n l xs s)
  unfolding table_run row_of
  from_revision zero n l xs = inr refl
  from_revision (suc k) n l xs = from_revision k 0 1 (set xs 0 flag)

  from_search : (k n l : ℕ) (xs : List ℕ) → Opens k (changed FrameSearch n l xs s)
  unfolding table_run row_of
  from_search zero n l xs = inl refl
  from_search (suc k) n l xs = from_revision k n l xs

  -- FrameEnd takes one flag, whether it hands out a packet on it or not
  from_end : (k n l : ℕ) (xs : List ℕ) → Opens (suc k) (changed FrameEnd n l xs s)
  unfolding table_run row_of
  from_end k n l xs =
      by_cond (λ (r : Stepped). Opens k r.state) (agrees_of (changed FrameEnd n l xs s)) _ _
      (λ e. from_search k n l xs) (λ e. from_search k n l xs)

  -- Check takes as many as check bytes are missing, and then FrameEnd one
  from_last_check : (k n l : ℕ) (xs : List ℕ) → l + 1 ≡ n + 4 → Opens (suc (suc k)) (changed Check n l xs s)
  unfolding table_run row_of
  from_last_check k n l xs last =
      subst (λ (t : Bool). Opens (suc k) (changed (cond t FrameEnd Check) n (l + 1) (set xs l flag) s)) (sym (eq-eqb (l + 1) (n + 4) last))
      (from_end k n (l + 1) (set xs l flag))

  from_check : (k n l : ℕ) (xs : List ℕ) → n + 2 ≤ l → l ≤ n + 3 → Opens (suc (suc (suc k))) (changed Check n l xs s)
  unfolding table_run row_of
  from_check k n l xs some most =
      by_cond (λ (q : Position). Opens (suc (suc k)) (changed q n (l + 1) (set xs l flag) s)) (eqb (l + 1) (n + 4)) FrameEnd Check
      (λ e. from_end (suc k) n (l + 1) (set xs l flag))
      (λ e. let more : l + 1 ≢ n + 4 = eqb-false (l + 1) (n + 4) e in
      from_last_check k n (l + 1) (set xs l flag) (omega arith))

  opens_at : (q : Position) → FitsAt q s.count s.len s.stored → Opens 3 (move_to q s)
  unfolding table_run row_of
  opens_at FrameSearch f = from_search 3 s.count s.len s.stored
  opens_at SerialRevision f = from_revision 3 s.count s.len s.stored
  opens_at ByteCount f = from_revision 1 flag (s.len + 1) (set s.stored s.len flag)
  opens_at Data f = from_revision 2 s.count s.len s.stored
  opens_at DataEscaped f = from_search 2 s.count s.len s.stored
  opens_at Check f = from_check 0 s.count s.len s.stored f.1.0 f.1.1
  opens_at FrameEnd f = from_end 2 s.count s.len s.stored

flags_bytes : (k : ℕ) → Bytes (flags k)
flags_bytes k = bytes_replicate k flag (omega arith)

flags_open : (s : Receiver) → Consistent s → Open (run_of s (flags 3))
flags_open s c =
    subst Open (table-run s (flags 3) c (flags_bytes 3))
    (subst (Opens 3) (at_own s s.position refl) (opens_at s s.position (facts s c.fits).here))

-- ---- the theorems

pub hears_from_open : HearsFromOpen
hears_from_open s c opens i ps sent =
    sym (table-outs i s (frames ps) c (frames_bytes ps sent)) ∙ frames_give ps i s opens c.sized sent

pub hears_from_any : HearsFromAny
hears_from_any s c = hears_from_open (run_of s (flags 3)) (run_keeps s (flags 3) c (flags_bytes 3)) (flags_open s c)

pub demand_3 : Demand3
demand_3 h bytes =
    subst Hears (sym (run_append fresh_of h (flags 3))) (hears_from_any (run_of fresh_of h) (reachable_consistent h bytes))

pub demand_3_whole : Demand3Whole
demand_3_whole h bytes ps sent =
    outs_append 0 fresh_of (h ++ flags 3) (frames ps) ∙ rw (zero-add, demand_3 h bytes (length (h ++ flags 3)) ps sent)

-- ---- two flags

-- a packet that is sent after a history and n flags, and not heard
pub not_heard : (step : Step) (h : List ℕ) (n : ℕ) (p : List ℕ) → Bytes h → Sendable p
    → outs_by step 0 (run_by step fresh_of (h ++ flags n)) (frames (p ∷ [])) ≡ [] → HearsAfterBy step placed n → ⊥
unfolding placed
not_heard step h n p bytes sent silent all =
    cc (silent, all h bytes 0 (p ∷ []) (sent, tt))

-- case A's packet behind case N's losing history
none_heard : outs_of 0 (run_of fresh_of (losing ++ flags 2)) (frames (ending flag ∷ [])) ≡ []
unfolding outs_by run_by step_of consistent_of fits_at row_of agrees_of frames frame escaped_all escaped check_from byte_step bit_steps bit_step
none_heard = refl

pub two_fail : TwoFail
two_fail = not_heard step_of losing 2 (ending flag) (bytes_each losing (omega arith)) (ending_sent flag (omega arith)) none_heard
