-- How long the receiver stays lost where the sender puts no flags between its frames: without end. Behind case N's history a count of 126,
-- which is a raw 7e, opens a frame inside the frame; in it FrameEnd takes a byte that is no flag for one; and its last frame inside has the
-- closing flag for a check byte, so that the next frame meets the receiver where the first one did. The proof: `proofs/Lost.antt`.
-- Assumes nothing.
use Rattle.std.specs.Prelude.{ℕ, ◌≡◌, List, [], ◌∷◌, ◌++◌, length, get_or, replicate}
use Rattle.line.specs.Demand3.{flags}
use Rattle.serial.specs.declared.receiver.Receiver.{Receiver}
use Rattle.framing.specs.Frame.{flag, frames, AllSendable}
use Rattle.serial.specs.Receiver.{fresh_of}
use Rattle.serial.specs.Run.{run_of, outs_of}

-- case N's losing history: a frame cut short
abbrev pub losing : List ℕ
losing = flag ∷ 0x01 ∷ 0x05 ∷ 0x01 ∷ 0x0a ∷ 0x09 ∷ 0xc8 ∷ 0x00 ∷ []

-- the state behind it and two flags
abbrev pub after_losing : Receiver
after_losing = run_of fresh_of (losing ++ flags 2)

-- a packet of 126 bytes: 01 and a count of 1 for the first frame inside, its byte, its check bytes, a byte in FrameEnd; 01 and a count of
-- 119 for the second, whose bytes are the rest and the first check byte
abbrev pub lost_packet : List ℕ
lost_packet = 0x01 ∷ 0x01 ∷ 0x00 ∷ 0x00 ∷ 0x00 ∷ 0x00 ∷ 0x01 ∷ 0x77 ∷ replicate 118 0x00

-- k packets of 126 bytes, each beginning with 01, of whose frames behind that history none is handed out
abbrev pub AllBegin01 : List (List ℕ) → Type 0
AllBegin01 [] = Unit {0}
AllBegin01 (p ∷ ps) = (length p ≡ 126) × (get_or p 0 0 ≡ 0x01) × AllBegin01 ps

pub record Unheard (k : ℕ) : Type 0 where
  pub packets : List (List ℕ)
  pub many : length packets ≡ k
  pub begin01 : AllBegin01 packets
  pub sendable : AllSendable packets
  pub silent : outs_of 0 after_losing (frames packets) ≡ []

abbrev pub LostWithoutEnd : Type 0
LostWithoutEnd = (k : ℕ) → Unheard k

-- with the one packet above, k times
abbrev pub LostPacketUnheard : Type 0
LostPacketUnheard = (k : ℕ) → outs_of 0 after_losing (frames (replicate k lost_packet)) ≡ []
