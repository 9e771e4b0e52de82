-- The writer's test of a packet's length: it holds within the limits, and so of the packets that are sent. Assumes nothing.
use Prim.Native.Nat.{ℕ, ◌≤◌}
use mathlib.Core.Path.{◌≡◌}
use mathlib.Core.Bool.{true}
use mathlib.Core.List.{List}
use lib.Dec.{leb}
use Rattle.std.proofs.Common.{arith, is_le, nat_cmp}
use Rattle.std.proofs.lemmas.Bool.Decides.{nat_tests}
use lib.ListN.{length}
use borrow.Author.Tests.{le-leb, leb-true}
use Rattle.checks.proofs.Choice.{and, left, right}
use Rattle.framing.specs.Frame.{packet_least, packet_most}
use Rattle.framing.specs.Writer.{SendableTested, sendable}

pub sendable_within : (packet : List ℕ) → packet_least ≤ length packet → length packet ≤ packet_most → sendable packet ≡ true
sendable_within packet least most = and (le-leb packet_least (length packet) least) (le-leb (length packet) packet_most most)

pub sendable_tested : SendableTested
sendable_tested packet bytes =
    let enough = leb packet_least (length packet) in
    let few = leb (length packet) packet_most in (
      λ sent. sendable_within packet sent.1 sent.2,
      λ e. (bytes, leb-true packet_least (length packet) (left enough few e), leb-true (length packet) packet_most (right enough few e)),
    )

-- the same test by a range that holds both limits
pub le_tested : (a b : ℕ) → is_le (nat_cmp a b) ≡ leb a b
le_tested a b = grind (arith, nat_tests)
