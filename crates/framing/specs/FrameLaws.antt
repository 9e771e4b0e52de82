-- What is proved of the frame's definition (`proofs/FrameLaws.antt`). Assumes nothing.
use Rattle.std.specs.Prelude.{ℕ, ◌+◌, ◌≤◌, ◌≡◌, List, length}
use Rattle.checks.specs.Laws.{Bytes}
use Rattle.framing.specs.Frame.{behind_flag, frame, escapes, Sendable}

-- with k escaped bytes the frame of n bytes has n + k + 6
abbrev pub FrameLength : Type 0
FrameLength = (packet : List ℕ) → length (frame packet) ≡ length packet + escapes packet + 6

-- so at most 516
abbrev pub FrameMost : Type 0
FrameMost = (packet : List ℕ) → Sendable packet → length (frame packet) ≤ 516

-- a frame is bytes
abbrev pub FrameBytes : Type 0
FrameBytes = (packet : List ℕ) → Sendable packet → Bytes (frame packet)

-- two packets with the same frame are the same packet, and so already behind the opening flag
abbrev pub SameFrame : Type 0
SameFrame = (p q : List ℕ) → frame p ≡ frame q → p ≡ q

abbrev pub SameBehindFlag : Type 0
SameBehindFlag = (p q : List ℕ) → behind_flag p ≡ behind_flag q → p ≡ q
