-- A stream in any cutting is one pass: each call's steps are those of a pass over the bytes that it took (`Steps` of `serial`), and a pass goes on
-- where the last one ended. Assumes nothing.
use Prim.Native.Nat.{ℕ, suc, ◌+◌, ◌≤◌}
use mathlib.Core.Path.{◌∙◌, refl, sym}
use mathlib.Core.List.{List, [], ◌∷◌, append_assoc, append-nil}
use native.Mathlib.Omega.{arith}
use lib.ListN.{length, drop, length-drop}
use Rattle.checks.proofs.Bytes.{bytes_drop}
use Rattle.serial.specs.declared.receiver.Receiver.{Receiver}
use Rattle.serial.specs.Consistency.{Consistent}
use Rattle.serial.specs.Run.{outs_by, run_by}
use Rattle.serial.specs.Steps.{Call, called}
use Rattle.serial.proofs.Steps.{goes_on, kept, state_goes_on, takes_one}
use Rattle.line.specs.Cutting.{AnyCutting, NothingLeft, WholeCutting, Willing, fed_by}

pub any_cutting : AnyCutting
unfolding fed_by
any_cutting [] i s stream fits h = record { packets = refl; state = refl }
any_cutting (c ∷ cs) i s stream fits h =
    let t = called c s stream in
    let more = any_cutting cs (i + t.taken) t.state (drop t.taken stream) (kept c s stream fits h) (bytes_drop t.taken stream h) in
    record { packets = goes_on c s stream fits i ∙ rw (more.packets, append_assoc) refl; state = state_goes_on c s stream fits ∙ more.state }

pub whole_cutting : WholeCutting
unfolding outs_by run_by
whole_cutting calls i s stream fits h e =
    let p = any_cutting calls i s stream fits h in
    (sym (p.packets ∙ rw (e, append-nil)), sym (p.state ∙ rw e))

-- ---- willing calls

fewer : (c : Call) (s : Receiver) (stream : List ℕ) (n : ℕ) → Consistent s → Willing c → length stream ≤ suc n
    → length (drop (called c s stream).taken stream) ≤ n
fewer c s [] n fits w h = omega (arith, length-drop {A = ℕ} (called c s []).taken [])
fewer c s (b ∷ bs) n fits w h =
    omega (arith, takes_one b bs s c.offered c.allowance c.room fits w.0 w.1 w.2, length-drop (called c s (b ∷ bs)).taken (b ∷ bs))

pub nothing_left : NothingLeft
unfolding fed_by
nothing_left [] i s [] fits h w few = refl
nothing_left [] i s (b ∷ bs) fits h w few = absurd (omega arith)
nothing_left (c ∷ cs) i s stream fits h w few =
    let t = called c s stream in
    nothing_left cs (i + t.taken) t.state (drop t.taken stream) (kept c s stream fits h) (bytes_drop t.taken stream h) w.1
    (fewer c s stream (length cs) fits w.0 few)
