-- Wrong ways to keep a state as bytes. Of each, a buffer is named at which it does not give what the definitions that the contract or the law cites give
-- there, so they refuse it. The proofs: `proofs/Wrong.antt`. Assumes nothing.
use Rattle.std.specs.Prelude.{ℕ, ◌+◌, ◌-◌, ◌≡◌, List, [], ◌∷◌, ◌≢◌, replicate}
use Rattle.checks.specs.Numbers.{answer, done}
use Rattle.checks.specs.Part.{bytes_of, part}
use Rattle.framing.specs.Frame.{flag}
use Rattle.serial.specs.Receiver.{fresh_of, step_of}
use Rattle.serial.specs.Run.{packet_in}
use Rattle.state.specs.InBuffer.{step_answer_in, step_leaves}
use Rattle.state.specs.State.{left, loaded, no_position, state_bytes, state_of, state_size, stored_at}

-- zeros, one byte less than a state has, and one more
abbrev short : List ℕ
short = replicate (state_size - 1) 0

abbrev long : List ℕ
long = replicate (state_size + 1) 0

-- what stands behind the first byte before the flag that ends case A's frame: the count, the stored length, and the stored bytes
abbrev case_a : List ℕ
case_a = 0x05 ∷ 0x00 ∷ 0x09 ∷ 0x01 ∷ 0x05 ∷ 0x01 ∷ 0x0a ∷ 0x09 ∷ 0xc8 ∷ 0x7e ∷ 0x2d ∷ 0xba ∷ replicate 250 0

-- ---- load

-- a state is loaded from a buffer of any size
abbrev pub LoadAnySizeFails : Type 0
LoadAnySizeFails = (loaded short ≢ state_of short) × (loaded long ≢ state_of long)

-- a first byte of 7, which is no position's number, passes for FrameEnd's
abbrev pub UnknownPositionFails : Type 0
UnknownPositionFails = loaded (no_position ∷ case_a) ≢ state_of (no_position ∷ case_a)

-- ---- store

-- a state is stored into a buffer of any size, which is not left as it is
abbrev pub StoreAnySizeFails : Type 0
StoreAnySizeFails = (left short fresh_of ≢ state_bytes fresh_of) × (left long fresh_of ≢ state_bytes fresh_of)

-- ---- a packet that a step handed out

-- it stands where the stored bytes begin: there are the revision and the count
abbrev pub HandedElsewhereFails : Type 0
HandedElsewhereFails = (step_answer_in flag (0x06 ∷ case_a) ≡ answer done (5 ∷ []))
    × (bytes_of (part stored_at 5) (step_leaves flag (0x06 ∷ case_a)) ≢ packet_in 5 (step_of flag (loaded (0x06 ∷ case_a))).state)
