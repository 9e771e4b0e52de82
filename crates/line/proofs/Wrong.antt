-- Each wrong receiver and taker fails on a stream of its own, which is computed; those of a kind, on any frames. Assumes nothing.
use Prim.Native.Nat.{ℕ, ◌+◌, ◌-◌}
use mathlib.Core.Path.{◌≡◌, ◌∙◌, ap, refl, subst, sym}
use mathlib.Core.Logic.{◌≢◌}
use mathlib.Core.List.{List, [], ◌∷◌, ◌++◌}
use native.Mathlib.Omega.{arith}
use lib.ListN.{length, get_or, replicate, length-append}
use lib.Seq.{get_or-append-add}
use Rattle.checks.specs.Laws.{Bytes}
use Rattle.checks.specs.Register.{bit_step, bit_steps, byte_step, check_from}
use Rattle.checks.proofs.Bytes.{bytes_each, bytes_none, bytes_replicate}
use Rattle.serial.specs.declared.receiver.Receiver.{Receiver}
use Rattle.std.proofs.Common.{Some, Ok}
use Rattle.framing.specs.Computed.{ending}
use Rattle.framing.specs.Frame.{AllSendable, Sendable, behind_flag, check_bytes, escape, escaped, escaped_all, flag, frame, frames, revision}
use Rattle.framing.proofs.FrameLaws.{frame_bytes}
use Rattle.serial.specs.Receiver.{agrees_of, consistent_of, fits_at, fresh_of, row_of, step_of}
use Rattle.serial.specs.Run.{Step, outs_by, packet_in, run_by}
use Rattle.serial.specs.Steps.{Call}
use Rattle.serial.specs.Taker.{take_from, taken_of}
use Rattle.serial.proofs.Keeps.{fresh_consistent}
use Rattle.line.specs.Converse.{Each, OnlyAsSentBy, SentAsBy}
use Rattle.line.specs.Cutting.{fed_by}
use Rattle.line.specs.Demand3.{HearsAfterBy, flags, placed}
use Rattle.line.specs.Lost.{lost_packet}
use Rattle.line.specs.Wrong.{CheckIgnoredFails, ComplementedFails, EscapeInCheckFails, EscapeInCountFails, FlagInCheckFails, FlagInCountFails, FlagsPairedFails, FlippedFails, FreshEachCallFails, HandsOutOnly, LenientFails, LowFirstFails, NeverHandsOutFails, OneTooManyFails, PlacedEarlyFails, SamePacketFails, Stuck, StuckFails, check_ignored, complemented, early, escape_in_check, escape_in_count, flag_in_check, flag_in_count, flags_paired, flipped, lenient, low_first}
use Rattle.line.proofs.Converse.{emit_each}
use Rattle.line.proofs.Demand3.{demand_3, not_heard}
use Rattle.line.proofs.Ending.{ending_sent}
use Rattle.line.proofs.Lost.{lost-line, lost_sendable}

-- ---- what demand 3 rules out

-- by a step, a packet behind three flags is not heard
abbrev Missed : Step → List ℕ → Type 0
Missed step p = outs_by step 0 (run_by step fresh_of (flags 3)) (frames (p ∷ [])) ≡ []

missed_fails : (step : Step) (p : List ℕ) → Sendable p → Missed step p → HearsAfterBy step placed 3 → ⊥
missed_fails step p sent missed = not_heard step [] 3 p bytes_none sent missed

-- case A's packet, two whose checks are 7e37 and 7d2f, and one of 125 bytes
missed : Missed flags_paired (ending flag) × Missed low_first (ending flag) × Missed complemented (ending flag)
    × Missed flag_in_check (ending 0x3f) × Missed escape_in_check (ending 0x0c) × Missed escape_in_count (replicate 125 0x00)
unfolding outs_by run_by step_of consistent_of fits_at row_of agrees_of frames frame escaped_all escaped check_from byte_step bit_steps bit_step
missed = (refl, refl, refl, refl, refl, refl)

pub flags_paired_fails : FlagsPairedFails
flags_paired_fails = missed_fails flags_paired (ending flag) (ending_sent flag (omega arith)) missed.0

pub low_first_fails : LowFirstFails
low_first_fails = missed_fails low_first (ending flag) (ending_sent flag (omega arith)) missed.1

pub complemented_fails : ComplementedFails
complemented_fails = missed_fails complemented (ending flag) (ending_sent flag (omega arith)) missed.2

pub flag_in_check_fails : FlagInCheckFails
flag_in_check_fails = missed_fails flag_in_check (ending 0x3f) (ending_sent 0x3f (omega arith)) missed.3

pub escape_in_check_fails : EscapeInCheckFails
escape_in_check_fails = missed_fails escape_in_check (ending 0x0c) (ending_sent 0x0c (omega arith)) missed.4

pub escape_in_count_fails : EscapeInCountFails
escape_in_count_fails =
    missed_fails escape_in_count (replicate 125 0x00) (bytes_replicate 125 0x00 (omega arith), omega arith, omega arith) missed.5

-- the count 126 opens a frame, and then all goes as behind the losing history
pub flag_in_count_fails : FlagInCountFails
unfolding frames outs_by run_by step_of consistent_of fits_at row_of
flag_in_count_fails = missed_fails flag_in_count lost_packet lost_sendable (rw lost-line refl)

-- ---- any of a kind

-- a step that is stuck hands out nothing
stuck_run : (step : Step) → Stuck step → (bytes : List ℕ) → run_by step fresh_of bytes ≡ fresh_of
unfolding run_by
stuck_run step stuck [] = refl
stuck_run step stuck (b ∷ bs) = rw (stuck b) (stuck_run step stuck bs)

stuck_outs : (step : Step) → Stuck step → (i : ℕ) (bytes : List ℕ) → outs_by step i fresh_of bytes ≡ []
unfolding outs_by
stuck_outs step stuck i [] = refl
stuck_outs step stuck i (b ∷ bs) = rw (stuck b) (stuck_outs step stuck (i + 1) bs)

pub stuck_fails : StuckFails
stuck_fails step stuck =
    missed_fails step (ending flag) (ending_sent flag (omega arith))
    (rw (stuck_run step stuck (flags 3)) (stuck_outs step stuck 0 (frames (ending flag ∷ []))))

-- a step that hands out one packet only hands out nothing else in a pass
only_outs : (packet : List ℕ) (step : Step) → HandsOutOnly packet step → (i : ℕ) (s : Receiver) (bytes : List ℕ)
    → Each (λ place out. out ≡ packet) (outs_by step i s bytes)
unfolding outs_by
only_outs packet step only i s [] = tt
only_outs packet step only i s (b ∷ bs) =
    emit_each (λ place out. out ≡ packet) (step b s).outcome (step b s).state i (outs_by step (i + 1) (step b s).state bs)
    (λ n e. only b n s e) (only_outs packet step only (i + 1) (step b s).state bs)

pub same_packet_fails : SamePacketFails
unfolding placed
same_packet_fails packet step only all =
    let two = ending 0x00 ∷ ending 0x01 ∷ [] in
    let sent : AllSendable two = (ending_sent 0x00 (omega arith), (ending_sent 0x01 (omega arith), tt)) in
    let both = subst (Each (λ place out. out ≡ packet)) (all [] bytes_none 0 two sent)
    (only_outs packet step only 0 (run_by step fresh_of (flags 3)) (frames two)) in
    cc (both.0, both.1.0)

pub never_hands_out_fails : NeverHandsOutFails
never_hands_out_fails step nothing = same_packet_fails [] step (λ b n s e. absurd (nothing b n s e))

-- ---- what the converse rules out

-- a packet that is handed out by a byte b behind bytes h, which don't end with its frame, since they differ from it at its place i
not_as_sent : (step : Step) (h packet : List ℕ) (b n i : ℕ) → Bytes h → (step b (run_by step fresh_of h)).outcome ≡ Ok (Some n)
    → packet_in n (step b (run_by step fresh_of h)).state ≡ packet
    → get_or (h ++ (b ∷ [])) (length (h ++ (b ∷ [])) - length (behind_flag packet) + i) 0 ≢ get_or (behind_flag packet) i 0
    → OnlyAsSentBy step → ⊥
not_as_sent step h packet b n i bytes hands is other all =
    let sent : SentAsBy step (h ++ (b ∷ [])) packet = rw is at (all h b n bytes hands) in
    let whole : length (h ++ (b ∷ [])) ≡ length sent.before + length (behind_flag packet) = rw sent.parts (length-append sent.before (behind_flag packet)) in
    let place : length (h ++ (b ∷ [])) - length (behind_flag packet) + i ≡ length sent.before + i = omega arith in
    other (rw (place, sent.parts) (get_or-append-add sent.before (behind_flag packet) i 0))

-- the line of a packet of five bytes up to its closing flag
abbrev open_line : List ℕ → List ℕ → List ℕ
open_line line checks = flag ∷ revision ∷ 0x05 ∷ (line ++ checks)

-- with 7d 41 for its last byte, and the check of a packet that ends with b
abbrev bad_pair : ℕ → List ℕ
bad_pair b = open_line (0x01 ∷ 0x0a ∷ 0x09 ∷ 0xc8 ∷ escape ∷ 0x41 ∷ []) (check_bytes (ending b))

-- with 00 00 for its check bytes
abbrev no_check : List ℕ
no_check = open_line (ending 0x00) (0x00 ∷ 0x00 ∷ [])

pub lenient_fails : LenientFails
unfolding run_by step_of consistent_of fits_at row_of agrees_of escaped_all escaped check_from byte_step bit_steps bit_step
lenient_fails =
    not_as_sent lenient (bad_pair 0x41) (ending 0x41) flag 5 0 (bytes_each (bad_pair 0x41) (omega arith)) refl refl (λ e. omega arith)

pub flipped_fails : FlippedFails
unfolding run_by step_of consistent_of fits_at row_of agrees_of escaped_all escaped check_from byte_step bit_steps bit_step
flipped_fails =
    not_as_sent flipped (bad_pair 0x61) (ending 0x61) flag 5 0 (bytes_each (bad_pair 0x61) (omega arith)) refl refl (λ e. omega arith)

pub check_ignored_fails : CheckIgnoredFails
unfolding run_by step_of consistent_of fits_at row_of agrees_of escaped_all escaped check_from byte_step bit_steps bit_step
check_ignored_fails =
    not_as_sent check_ignored no_check (ending 0x00) flag 5 7 (bytes_each no_check (omega arith)) refl refl (λ e. omega arith)

-- ---- places

-- the place of the first packet
abbrev first_place : List (ℕ × List ℕ) → ℕ
first_place [] = 0
first_place (o ∷ os) = o.0

pub placed_early_fails : PlacedEarlyFails
unfolding early placed frame escaped_all escaped
placed_early_fails all =
    let one = ending 0x00 ∷ [] in
    let sent : AllSendable one = (ending_sent 0x00 (omega arith), tt) in
    omega (arith, ap first_place (sym (demand_3 [] bytes_none 0 one sent) ∙ all [] bytes_none 0 one sent))

-- ---- takers

-- a call with all that it needs on n bytes
abbrev call_on : ℕ → Call
call_on n = record { offered = n; allowance = n; room = 255 }

case_a_bytes : Bytes (frame (ending flag))
case_a_bytes = frame_bytes (ending flag) (ending_sent flag (omega arith))

pub fresh_each_call_fails : FreshEachCallFails
unfolding fed_by taken_of take_from outs_by step_of consistent_of fits_at row_of agrees_of frame escaped_all escaped check_from byte_step bit_steps bit_step
fresh_each_call_fails all =
    omega (arith, ap length (all (call_on 6 ∷ call_on 6 ∷ []) 0 fresh_of (frame (ending flag)) fresh_consistent case_a_bytes).packets)

pub one_too_many_fails : OneTooManyFails
unfolding fed_by taken_of take_from outs_by step_of consistent_of fits_at row_of agrees_of frame escaped_all escaped check_from byte_step bit_steps bit_step
one_too_many_fails all =
    omega (arith, ap first_place (all (call_on 12 ∷ []) 0 fresh_of (frame (ending flag)) fresh_consistent case_a_bytes).packets)
