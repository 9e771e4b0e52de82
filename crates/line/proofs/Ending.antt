-- The packets that the streams in numbers are made of are sent: five bytes, of which the last may be any. Assumes nothing.
use Prim.Native.Nat.{ℕ, ◌<◌}
use native.Mathlib.Omega.{arith}
use Rattle.checks.proofs.Bytes.{bytes_each}
use Rattle.framing.specs.Computed.{ending}
use Rattle.framing.specs.Frame.{Sendable}

pub ending_sent : (b : ℕ) → b < 256 → Sendable (ending b)
ending_sent b byte = (bytes_each (ending b) (omega arith), omega arith, omega arith)
