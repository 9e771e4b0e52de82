-- Where the sender puts no flags between its frames, the receiver stays lost without end: behind case N's history the first frame of the
-- packet leaves it in a state to which each further one leads back, and none of them hands anything out. All this is computed, which is why
-- the state and the frame stand here in numbers. Assumes nothing.
use Prim.Native.Nat.{ℕ, zero, suc}
use mathlib.Core.Path.{◌≡◌, ◌∙◌, refl}
use mathlib.Core.List.{List, [], ◌∷◌, ◌++◌}
use native.Mathlib.Omega.{arith}
use lib.ListN.{replicate, length-replicate}
use Rattle.checks.specs.Register.{bit_step, bit_steps, byte_step, check_from}
use Rattle.checks.proofs.Bytes.{bytes_each}
use Rattle.serial.specs.declared.receiver.Position.TheVariants.{FrameEnd}
use Rattle.serial.specs.declared.receiver.Receiver.{Receiver}
use Rattle.framing.specs.Frame.{AllSendable, Sendable, escaped, escaped_all, flag, frame, frames, revision}
use Rattle.serial.specs.Receiver.{agrees_of, changed, consistent_of, fits_at, fresh_of, row_of, step_of}
use Rattle.serial.specs.Run.{outs_by, outs_of, run_by, run_of}
use Rattle.line.specs.Lost.{AllBegin01, LostPacketUnheard, LostWithoutEnd, after_losing, lost_packet}
use Rattle.serial.proofs.Run.{outs_append}

-- ---- the state that each frame of the packet leaves

-- the packet's frame, with its check bytes computed
abbrev pub lost_line : List ℕ
lost_line = flag ∷ revision ∷ 0x7e ∷ (lost_packet ++ (0x49 ∷ 0x43 ∷ flag ∷ []))

pub lost-line : frame lost_packet ≡ lost_line
unfolding frame escaped_all escaped check_from byte_step bit_steps bit_step
lost-line = refl

lost : Receiver
lost = changed FrameEnd 119 123 (0x01 ∷ 0x77 ∷ (replicate 118 0x00 ++ (0x49 ∷ 0x43 ∷ 0x7e ∷ replicate 136 0x00))) fresh_of

-- from here the packet's frame hands out nothing and leaves that state
abbrev Lost : Receiver → Type 0
Lost s = (i : ℕ) → (outs_of i s lost_line ≡ []) × (run_of s lost_line ≡ lost)

first_lost : Lost after_losing
unfolding lost outs_by run_by step_of consistent_of fits_at row_of agrees_of check_from byte_step bit_steps bit_step
first_lost i = (refl, refl)

next_lost : Lost lost
unfolding lost outs_by run_by step_of consistent_of fits_at row_of agrees_of check_from byte_step bit_steps bit_step
next_lost i = (refl, refl)

-- ---- any number of them

any_lost : (s : Receiver) → Lost s → (k i : ℕ) → outs_of i s (frames (replicate k lost_packet)) ≡ []
unfolding frames outs_by
any_lost s none zero i = refl
any_lost s none (suc k) i =
    rw lost-line (outs_append i s lost_line (frames (replicate k lost_packet)) ∙ rw ((none i).0, (none i).1) (any_lost lost next_lost k _))

pub lost_packet_unheard : LostPacketUnheard
lost_packet_unheard k = any_lost after_losing first_lost k 0

-- ---- the packet is one that is sent, and begins with 01

pub lost_sendable : Sendable lost_packet
lost_sendable = (bytes_each lost_packet (omega arith), omega arith, omega arith)

lost_packets : (k : ℕ) → AllBegin01 (replicate k lost_packet) × AllSendable (replicate k lost_packet)
lost_packets zero = (tt, tt)
lost_packets (suc k) = ((refl, refl, (lost_packets k).0), (lost_sendable, (lost_packets k).1))

pub lost_without_end : LostWithoutEnd
lost_without_end k = record {
  packets = replicate k lost_packet;
  many = length-replicate k lost_packet;
  begin01 = (lost_packets k).0;
  sendable = (lost_packets k).1;
  silent = lost_packet_unheard k;
}
