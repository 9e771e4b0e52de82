-- What is computed, step by step, from the definitions: an instance of demand 3, streams that are nearly frames. An error in a definition
-- breaks these first. The proofs: `proofs/Computed.antt`. Assumes nothing.
use Rattle.std.specs.Prelude.{ℕ, ◌/◌, ◌%◌, ◌≡◌, List, [], ◌∷◌, ◌++◌, replicate}
use Rattle.checks.specs.FrameCheck.{frame_check}
use Rattle.line.specs.Demand3.{flags, placed}
use Rattle.framing.specs.Computed.{ending}
use Rattle.framing.specs.Frame.{check_bytes, covered, escape, flag, frames, revision}
use Rattle.serial.specs.Receiver.{fresh_of}
use Rattle.serial.specs.Run.{outs_of, run_of}

-- ---- frames that are heard

-- demand 3 at these packets and no history
abbrev Heard : List (List ℕ) → Type 0
Heard ps = outs_of 0 (run_of fresh_of (flags 3)) (frames ps) ≡ placed 0 ps

-- case A's packet, with a flag to escape, and one whose check is cd7e, so that a check byte is a flag; then one of 126 bytes, so that the count is
abbrev pub ThreeHeard : Type 0
ThreeHeard = Heard (ending flag ∷ (0x00 ∷ 0x00 ∷ 0x00 ∷ 0x00 ∷ 0x74 ∷ []) ∷ []) × Heard ((0x01 ∷ replicate 125 0x00) ∷ [])

-- ---- frames that are nearly so

-- what stands between two flags for a packet of five bytes
abbrev pub between : List ℕ → List ℕ → List ℕ
between line checks = flag ∷ revision ∷ 0x05 ∷ (line ++ (checks ++ (flag ∷ [])))

-- the check bytes, the low one first
abbrev pub swapped : List ℕ → List ℕ
swapped packet = frame_check (covered packet) % 256 ∷ frame_check (covered packet) / 256 ∷ []

-- 7d 41 is read neither as 41 nor, with a bit flipped, as 61; nor are other check bytes taken, nor the right ones in the other order
abbrev pub NearMisses : Type 0
NearMisses = (outs_of 0 fresh_of (between (0x01 ∷ 0x0a ∷ 0x09 ∷ 0xc8 ∷ escape ∷ 0x41 ∷ []) (check_bytes (ending 0x41))) ≡ [])
    × (outs_of 0 fresh_of (between (0x01 ∷ 0x0a ∷ 0x09 ∷ 0xc8 ∷ escape ∷ 0x41 ∷ []) (check_bytes (ending 0x61))) ≡ [])
    × (outs_of 0 fresh_of (between (ending 0x00) (0x00 ∷ 0x00 ∷ [])) ≡ [])
    × (outs_of 0 fresh_of (between (ending 0x00) (swapped (ending 0x00))) ≡ [])
