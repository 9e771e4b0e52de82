-- What `list_next` says, from what the taker says: the packet that the taker copied is the one that its state has, and its line fits, since it is the
-- first of the lines that the whole input gives. Assumes nothing.
use Prim.Native.Nat.{ℕ, ◌+◌, ◌≤◌}
use mathlib.Core.Path.{◌≡◌, ◌∙◌, ap, ap₂, refl, sym}
use mathlib.Core.List.{List, [], ◌∷◌, ◌++◌}
use native.Mathlib.Omega.{arith}
use lib.ListN.{length, drop, take, length-append}
use lib.Seq.{take_at}
use Rattle.std.proofs.Common.{Ok, Err}
use Rattle.checks.specs.Laws.{Bytes}
use Rattle.checks.specs.Output.{put_at}
use Rattle.checks.proofs.Output.{length_start}
use Rattle.io.proofs.Counting.{prefix_len_of_le}
use Rattle.serial.specs.declared.receiver.Receiver.{Receiver}
use Rattle.serial.specs.declared.taker.Stop.TheVariants.{Packet, InputEnded, AllowanceSpent}
use Rattle.serial.specs.declared.taker.Taken.{Taken}
use Rattle.serial.specs.Consistency.{Consistent}
use Rattle.serial.specs.Run.{heard, packet_in}
use Rattle.serial.specs.Taker.{Reason, copied_of, taken_of}
use Rattle.listing.specs.declared.lines.Added.{Added}
use Rattle.listing.specs.declared.lines.Turn.{Turn}
use Rattle.listing.specs.Text.{lines_of}
use Rattle.listing.specs.Turn.{CopiedWithin, added, copied_out, handed_out, next_heard, next_taken, next_turn}
use Rattle.listing.proofs.TextLaws.{lines_append}
use Rattle.listing.proofs.TurnLaws.{next-heard, next_packet}

-- what is promised of a call: the turn that it makes, and the output
abbrev pub Said : Receiver → List ℕ → ℕ → List ℕ → Turn → List ℕ → Type 0
Said s input used out turn left =
    record { value : turn ≡ next_turn s input used; out_after : left ≡ put_at used (lines_of (next_heard s input)) out }

-- what is known behind a call of the taker with a packet's room: `before` and `after` are what the room held
pub record Called (s : Receiver) (input before after : List ℕ) (t : Taken) : Type 0 where
  pub fits : Consistent s
  pub bytes : Bytes input
  pub sized : length before ≡ 255
  pub result : t ≡ taken_of input (length input) (length before) s
  pub copied : after ≡ copied_of t.reason t.state before

module _ {s : Receiver} {input before after : List ℕ} {t : Taken} (d : Called s input before after t) where
  same : t ≡ next_taken s input
  same = d.result ∙ ap (λ (room : ℕ). taken_of input (length input) room s) d.sized

  -- a packet was handed out
  module _ (n : ℕ) (f : t.reason ≡ Ok (Packet n)) where
    here : (n ≤ 255) × (length (packet_in n (next_taken s input).state) ≡ n)
    here = next_packet s input d.fits n d.bytes (sym (ap (λ (x : Taken). x.reason) same) ∙ f)

    size : length (packet_in n t.state) ≡ n
    size = ap (λ (x : Taken). length (packet_in n x.state)) same ∙ here.1

    written : after ≡ packet_in n t.state ++ drop (length (packet_in n t.state)) before
    unfolding copied_of
    written = d.copied ∙ ap (λ (r : Reason). copied_of r t.state before) f

    packet_bytes : take n after ≡ packet_in n t.state
    packet_bytes = ap (take n) written ∙ take_at (packet_in n t.state) _ n size

    packet_room : n ≤ length after
    packet_room =
        omega (arith, here.0, ap length written, length_start (packet_in n t.state) before (omega (arith, size, here.0)))

  -- what was copied lies within the room
  pub copied_within : CopiedWithin t.reason after
  copied_within = go t.reason refl
    where
      go : (r : Reason) → t.reason ≡ r → CopiedWithin r after
      go (Ok (Packet n)) f = prefix_len_of_le n after (packet_room n f)
      go (Ok InputEnded) f = tt
      go (Ok AllowanceSpent) f = tt
      go (Err e) f = tt

  -- and is what was handed out
  pub copied_heard : copied_out t.reason after ≡ next_heard s input
  copied_heard = go t.reason refl ∙ ap (λ (x : Taken). handed_out x.reason x.state) same
    where
      go : (r : Reason) → t.reason ≡ r → copied_out r after ≡ handed_out r t.state
      go (Ok (Packet n)) f = ap (λ (p : List ℕ). p ∷ []) (packet_bytes n f)
      go (Ok InputEnded) f = refl
      go (Ok AllowanceSpent) f = refl
      go (Err e) f = refl

  -- its line fits, since it is the first of those that the whole input gives
  pub line_fits : (used room : ℕ) → used + length (lines_of (heard s input)) ≤ room → used + length (lines_of (copied_out t.reason after)) ≤ room
  line_fits used room k =
      let rest = heard (next_taken s input).state (drop (next_taken s input).taken input) in
      omega (
        arith,
        ap (λ (ps : List (List ℕ)). length (lines_of ps)) copied_heard,
        ap (λ (ps : List (List ℕ)). length (lines_of ps)) (next-heard s input d.fits),
        ap length (lines_append (next_heard s input) rest),
        length-append (lines_of (next_heard s input)) (lines_of rest),
      )

  -- put behind the text, it makes the turn
  pub turn_said : (used : ℕ) (out : List ℕ) (line : Added) (left : List ℕ) → line ≡ added used (copied_out t.reason after)
      → left ≡ put_at used (lines_of (copied_out t.reason after)) out
      → Said s input used out (record { taken = t.taken; used = line.used; packets = line.packets; state = t.state }) left
  turn_said used out line left el eo = record {
    value = ap₂ (λ (x : Taken) (l : Added). record { taken = x.taken; used = l.used; packets = l.packets; state = x.state }) same (el ∙ ap (added used) copied_heard);
    out_after = eo ∙ ap (λ (ps : List (List ℕ)). put_at used (lines_of ps) out) copied_heard;
  }
