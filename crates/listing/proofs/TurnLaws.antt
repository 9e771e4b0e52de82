-- What a call of the taker adds to the listing: one pass goes on behind the bytes that it took, and what it handed out comes first. Assumes nothing.
use Prim.Native.Nat.{ℕ, ◌+◌, ◌-◌, ◌≤◌}
use mathlib.Core.Path.{◌≡◌, ◌∙◌, ap, refl, subst, sym}
use mathlib.Core.List.{List, [], ◌∷◌, ◌++◌}
use native.Mathlib.Omega.{arith}
use lib.ListN.{length, drop}
use lib.Seq.{take-length}
use Rattle.std.proofs.Common.{Ok, Err}
use Rattle.checks.specs.Laws.{Bytes}
use Rattle.framing.specs.Frame.{packet_most}
use Rattle.serial.specs.declared.receiver.Receiver.{Receiver}
use Rattle.serial.specs.declared.taker.Stop.TheVariants.{Packet, InputEnded, AllowanceSpent}
use Rattle.serial.specs.declared.taker.Taken.{Taken}
use Rattle.serial.specs.Consistency.{Consistent}
use Rattle.serial.specs.Steps.{Call, called, handed}
use Rattle.serial.specs.Run.{heard, outs_of, packet_in, packets_of, run_of}
use Rattle.serial.specs.Taker.{Reason, stop, take_from, taken_of}
use Rattle.serial.proofs.Steps.{goes_on, kept, state_goes_on, takes_one, within}
use Rattle.serial.proofs.Run.{any_place, packets_append}
use Rattle.serial.proofs.TakerLaws.{packet_length, took}
use Rattle.listing.specs.Turn.{handed_out, next_heard, next_taken}

-- ---- one call

handed_packets : (r : Reason) (s : Receiver) (i : ℕ) → packets_of (handed r s i []) ≡ handed_out r s
unfolding packets_of
handed_packets (Ok (Packet n)) s i = refl
handed_packets (Ok InputEnded) s i = refl
handed_packets (Ok AllowanceSpent) s i = refl
handed_packets (Err e) s i = refl

turn_heard : (c : Call) (s : Receiver) (stream : List ℕ) → Consistent s
    → heard s stream
    ≡ handed_out (called c s stream).reason (called c s stream).state ++ heard (called c s stream).state (drop (called c s stream).taken stream)
turn_heard c s stream fits =
    let t = called c s stream in
    ap packets_of (goes_on c s stream fits 0)
    ∙ packets_append (handed t.reason t.state (0 + t.taken - 1) []) _
    ∙ ap (λ (first : List (List ℕ)). first ++ packets_of (outs_of (0 + t.taken) t.state (drop t.taken stream))) (handed_packets t.reason t.state _)
    ∙ ap (λ (rest : List (List ℕ)). handed_out t.reason t.state ++ rest) (any_place _ 0 t.state (drop t.taken stream))

-- ---- a call that may take the whole input

whole : List ℕ → Call
whole input = record { offered = length input; allowance = length input; room = packet_most }

same_call : (s : Receiver) (input : List ℕ) → called (whole input) s input ≡ next_taken s input
unfolding whole
same_call s input = ap (λ (xs : List ℕ). taken_of xs (length input) packet_most s) (take-length input)

module _ (s : Receiver) (input : List ℕ) (fits : Consistent s) where
  -- what it hands out comes first, and one pass goes on behind the bytes that it took
  pub next-heard : heard s input ≡ next_heard s input ++ heard (next_taken s input).state (drop (next_taken s input).taken input)
  next-heard =
      subst (λ (t : Taken). heard s input ≡ handed_out t.reason t.state ++ heard t.state (drop t.taken input)) (same_call s input)
      (turn_heard (whole input) s input fits)

  pub next_run : run_of s input ≡ run_of (next_taken s input).state (drop (next_taken s input).taken input)
  next_run = subst (λ (t : Taken). run_of s input ≡ run_of t.state (drop t.taken input)) (same_call s input) (state_goes_on (whole input) s input fits)

  pub next_within : (next_taken s input).taken ≤ length input
  next_within = subst (λ (t : Taken). t.taken ≤ length input) (same_call s input) (within (whole input) s input fits)

  pub next_kept : Bytes input → Consistent (next_taken s input).state
  next_kept h = subst (λ (t : Taken). Consistent t.state) (same_call s input) (kept (whole input) s input fits h)

  -- a packet has as many bytes as is said, at most 255
  pub next_packet : (n : ℕ) → Bytes input → (next_taken s input).reason ≡ Ok (Packet n) → (n ≤ packet_most) × (length (packet_in n (next_taken s input).state) ≡ n)
  unfolding taken_of
  next_packet n h e =
      let from : next_taken s input ≡ take_from input (length input) s 0 = simp fits.fits in
      let t = next_taken s input in
      let few = (took input (length input) s (Packet n) t.taken t.state fits h (ap (λ (r : Reason). stop r t.taken t.state) (sym e) ∙ from)).few_bytes in
      (few, packet_length (next_taken s input).state n (next_kept h).sized few)

-- where there is a byte it takes one
pub next_some : (s : Receiver) (input : List ℕ) → Consistent s → 1 ≤ length input → 1 ≤ (next_taken s input).taken
next_some s [] fits h = absurd (omega arith)
next_some s (b ∷ bs) fits h =
    subst (λ (xs : List ℕ). 1 ≤ (taken_of xs (length (b ∷ bs)) packet_most s).taken) (take-length (b ∷ bs))
    (takes_one b bs s (length (b ∷ bs)) (length (b ∷ bs)) packet_most fits h h (omega arith))
