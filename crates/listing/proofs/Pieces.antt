-- Reads in turn list what one pass lists: each call lists what its piece hands out and leaves the state that the piece leads to. Behind three flags
-- that is demand 3. Assumes nothing.
use Prim.Native.Nat.{ℕ, ◌+◌}
use mathlib.Core.Path.{◌≡◌, ◌∙◌, ap, ap₂, refl, sym}
use mathlib.Core.Bool.{true}
use mathlib.Core.List.{List, [], ◌∷◌, ◌++◌}
use lib.ListN.{length, length-append}
use Rattle.serial.specs.declared.receiver.Receiver.{Receiver}
use Rattle.line.specs.Demand3.{flags, placed}
use Rattle.framing.specs.Frame.{frame}
use Rattle.serial.specs.Receiver.{consistent_of, fresh_of}
use Rattle.serial.specs.Run.{heard, outs_by, outs_of, packets_of, run_of}
use Rattle.line.proofs.Demand3.{demand_3_whole}
use Rattle.serial.proofs.Keeps.{fresh_consistent, run_keeps}
use Rattle.serial.proofs.Run.{heard_append, packets_append}
use Rattle.listing.specs.Closing.{closing_line}
use Rattle.listing.specs.Laws.{AnyReads, ReadsWriteAll, ThreeFlagsListed, counted_by, joined, written_by}
use Rattle.listing.specs.Listing.{listed, roomy, state_after}
use Rattle.listing.specs.Text.{lines_of}
use Rattle.listing.proofs.TextLaws.{lines_append}

-- a piece with its room, from a consistent state
listed_all : (input : List ℕ) (room : ℕ) (s : Receiver) → consistent_of s ≡ true → roomy (length input) room ≡ true → listed input room s ≡ heard s input
unfolding listed
listed_all input room s c r = simp (c, r)

state_all : (input : List ℕ) (room : ℕ) (s : Receiver) → consistent_of s ≡ true → roomy (length input) room ≡ true
    → state_after input room s ≡ run_of s input
unfolding state_after
state_all input room s c r = simp (c, r)

pub any_reads : AnyReads
unfolding written_by counted_by joined outs_by packets_of lines_of
any_reads room s [] c h r = (refl, refl)
any_reads room s (p ∷ ps) c h r =
    let next = run_of s p in
    let first = listed_all p room s c.fits r.0 in
    let state = state_all p room s c.fits r.0 in
    let more = any_reads room next ps (run_keeps s p c h.0) h.1 r.1 in
    let all = sym (heard_append s p (joined ps)) in (
      ap₂ (λ (packets : List (List ℕ)) (u : Receiver). lines_of packets ++ written_by room u ps) first state
          ∙ ap (λ (later : List ℕ). lines_of (heard s p) ++ later) more.0
          ∙ sym (lines_append (heard s p) (heard next (joined ps)))
          ∙ ap lines_of all,
      ap₂ (λ (packets : List (List ℕ)) (u : Receiver). length packets + counted_by room u ps) first state
          ∙ ap (λ (later : ℕ). length (heard s p) + later) more.1
          ∙ sym (length-append (heard s p) (heard next (joined ps)))
          ∙ ap length all,
    )

pub reads_write_all : ReadsWriteAll
reads_write_all room ps h r =
    let e = any_reads room fresh_of ps fresh_consistent h r in
    ap₂ (λ (text : List ℕ) (n : ℕ). text ++ closing_line (length (joined ps)) n) e.0 e.1

-- the packets of frames, without their places
placed_packets : (i : ℕ) (ps : List (List ℕ)) → packets_of (placed i ps) ≡ ps
unfolding placed packets_of
placed_packets i [] = refl
placed_packets i (p ∷ ps) = ap (λ (rest : List (List ℕ)). p ∷ rest) (placed_packets (i + length (frame p)) ps)

pub three_flags_listed : ThreeFlagsListed
three_flags_listed h bytes ps sendable =
    ap lines_of
    (ap packets_of (demand_3_whole h bytes ps sendable)
    ∙ packets_append (outs_of 0 fresh_of (h ++ flags 3)) _
    ∙ ap (λ (later : List (List ℕ)). heard fresh_of (h ++ flags 3) ++ later) (placed_packets _ ps))
    ∙ lines_append (heard fresh_of (h ++ flags 3)) ps
