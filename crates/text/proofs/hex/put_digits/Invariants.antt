use Prim.Native.Nat.{◌+◌}
use mathlib.Core.Path.{◌≡◌}
use lib.ListN.{length, drop}
use Rattle.checks.specs.Output.{put_at}
use Rattle.text.specs.Hex.{hex_all}
use Rattle.text.proofs.hex.put_digits.Given as goal

abbrev pub invariant-loop-b : goal.invariant-loop-b
invariant-loop-b l =
    (length l.out ≡ length l.initial.out)
    × (l.place + length (hex_all (drop l.b-index l.bytes)) ≡ l.start + length (hex_all l.bytes))
    × (put_at l.place (hex_all (drop l.b-index l.bytes)) l.out ≡ put_at l.start (hex_all l.bytes) l.initial.out)
