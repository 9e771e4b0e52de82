-- `listing::lines::put_packet` meets its contract: a packet's line is put behind the text, which has room for it. Assumes nothing.
use Prim.Native.Nat.{ℕ, ◌+◌, ◌≤◌}
use mathlib.Core.Path.{◌≡◌, ◌∙◌, ap, subst, sym}
use mathlib.Core.List.{List, [], ◌∷◌}
use native.Mathlib.Omega.{arith}
use lib.ListN.{length, take}
use Rattle.std.proofs.Common.{Ok, rules}
use Rattle.checks.specs.Output.{put_at}
use Rattle.serial.specs.declared.taker.Stop.TheVariants.{Packet}
use Rattle.serial.specs.Taker.{Reason}
use Rattle.text.specs.Hex.{line_of}
use Rattle.text.specs.Put.{put_end, put_text}
use Rattle.text.proofs.PutLaws.{with_room}
use Rattle.listing.specs.declared.lines.Added.{Added}
use Rattle.listing.specs.Text.{lines_of}
use Rattle.listing.specs.Turn.{added, copied_out}
use Rattle.listing.proofs.TextLaws.{one_line}
use Rattle.listing.proofs.lines.put_packet.Goals as goal

-- what is promised
abbrev Puts : ℕ → List (List ℕ) → List ℕ → Added → List ℕ → Type 0
Puts used ps out line left = record { value : line ≡ added used ps; out_after : left ≡ put_at used (lines_of ps) out }

-- of one packet
one-put : (used end : ℕ) (packet out left : List ℕ) → used + length (lines_of (packet ∷ [])) ≤ length out → end ≡ put_end used (line_of packet) (length out)
    → left ≡ put_text used (line_of packet) out → Puts used (packet ∷ []) out (record { used = end; packets = 1 }) left
one-put used end packet out left room en el =
    let same = one_line packet in
    let there = with_room used (line_of packet) out (omega (arith, ap length same)) in
    record {
      value = ap (λ (n : ℕ). record { used = n; packets = 1 }) (en ∙ there.0 ∙ ap (λ (xs : List ℕ). used + length xs) (sym same));
      out_after = el ∙ there.1 ∙ ap (λ (xs : List ℕ). put_at used xs out) (sym same);
    }

packet-put : (r : Reason) (n : ℕ) (room out left : List ℕ) (used end : ℕ) → r ≡ Ok (Packet n) → used + length (lines_of (copied_out r room)) ≤ length out
    → end ≡ put_end used (line_of (take n room)) (length out) → left ≡ put_text used (line_of (take n room)) out
    → Puts used (copied_out r room) out (record { used = end; packets = 1 }) left
packet-put r n room out left used end f fits en el =
    let same : copied_out r room ≡ take n room ∷ [] = ap (λ (q : Reason). copied_out q room) f in
    subst (λ (ps : List (List ℕ)). Puts used ps out (record { used = end; packets = 1 }) left) (sym same)
    (one-put used end (take n room) out left (omega (arith, fits, ap (λ (ps : List (List ℕ)). length (lines_of ps)) same)) en el)

pub returns-in-Ok-Packet : goal.returns-in-Ok-Packet
returns-in-Ok-Packet c =
    let is : c.args.reason ≡ Ok (Packet c.in-Ok-Packet.n) = search rules in
    packet-put c.args.reason _ c.args.room.now c.args.out.now _ c.args.used _ is c.requires.1
    c.put_line-end.ensures.value c.put_line-end.ensures.out_after
