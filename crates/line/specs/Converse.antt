-- What keeps a stranger out: a packet is handed out only where the last bytes fed are its frame, from the revision to the closing flag.
-- The proofs: `proofs/Converse.antt`. Assumes nothing.
use Rattle.std.specs.Prelude.{ℕ, ◌+◌, ◌≡◌, ◌⊎◌, List, [], ◌∷◌, ◌++◌, Some, Ok, take}
use Rattle.checks.specs.Laws.{Bytes}
use Rattle.serial.specs.declared.receiver.Position.TheVariants.{FrameEnd}
use Rattle.framing.specs.Frame.{behind_flag, flag, frame, revision}
use Rattle.framing.specs.Computed.{ending}
use Rattle.serial.specs.Receiver.{fresh_of, step_of}
use Rattle.serial.specs.Run.{Step, outs_of, packet_in, run_by}

-- by a step, where the opening flag stands: the last byte of these is a flag, or stands in its place, taken in FrameEnd
pub record OpenedBy (step : Step) (bytes : List ℕ) : Type 0 where
  pub before : List ℕ
  pub opening : ℕ
  pub parts : bytes ≡ before ++ (opening ∷ [])
  pub opens : (opening ≡ flag) ⊎ ((run_by step fresh_of before).position ≡ FrameEnd)

-- these bytes end with the packet's frame, from the revision on
pub record SentAsBy (step : Step) (bytes packet : List ℕ) : Type 0 where
  pub before : List ℕ
  pub parts : bytes ≡ before ++ behind_flag packet
  pub opened : OpenedBy step before

-- from fresh, after any bytes h, a byte b that hands out a packet ends that packet's frame
abbrev pub OnlyAsSentBy : Step → Type 0
OnlyAsSentBy step = (h : List ℕ) (b n : ℕ) → Bytes h → (step b (run_by step fresh_of h)).outcome ≡ Ok (Some n)
    → SentAsBy step (h ++ (b ∷ [])) (packet_in n (step b (run_by step fresh_of h)).state)

-- by our step
abbrev pub Opened : List ℕ → Type 0
Opened bytes = OpenedBy step_of bytes

abbrev pub SentAs : List ℕ → List ℕ → Type 0
SentAs bytes packet = SentAsBy step_of bytes packet

abbrev pub OnlyAsSent : Type 0
OnlyAsSent = OnlyAsSentBy step_of

-- so it is with each packet and its place
abbrev pub Each : (ℕ → List ℕ → Type 0) → List (ℕ × List ℕ) → Type 0
Each so [] = Unit {0}
Each so (o ∷ os) = so o.0 o.1 × Each so os

-- a stream, up to and with a place, ends with a packet's frame
abbrev pub SentAt : List ℕ → ℕ → List ℕ → Type 0
SentAt stream place packet = SentAs (take (place + 1) stream) packet

-- of a whole stream: each packet at its place
abbrev pub AllAsSent : List ℕ → List (ℕ × List ℕ) → Type 0
AllAsSent stream outs = Each (SentAt stream) outs

abbrev pub StreamAsSent : Type 0
StreamAsSent = (stream : List ℕ) → Bytes stream → AllAsSent stream (outs_of 0 fresh_of stream)

-- a frame of one byte, 00 in place of its closing flag, and behind it another frame from the revision on
abbrev pub flagless : List ℕ
flagless = flag ∷ revision ∷ 0x01 ∷ 0x00 ∷ 0x00 ∷ 0x00 ∷ 0x00 ∷ behind_flag (ending 0x00)

-- so a flag before the revision is not needed: the packet is handed out on the last byte, and its whole frame is not there
abbrev pub FlagNotNeeded : Type 0
FlagNotNeeded = Bytes flagless × (outs_of 0 fresh_of flagless ≡ (16, ending 0x00) ∷ [])
    × ((before : List ℕ) → flagless ≡ before ++ frame (ending 0x00) → ⊥)
