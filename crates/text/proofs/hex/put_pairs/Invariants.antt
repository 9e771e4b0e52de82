use Prim.Native.Nat.{◌*◌}
use mathlib.Core.Path.{◌≡◌}
use lib.ListN.{length, drop}
use Rattle.checks.specs.Output.{at_start, put_at}
use Rattle.text.specs.Read.{hex_bytes}
use Rattle.text.proofs.hex.put_pairs.Given as goal

abbrev pub invariant-loop-i : goal.invariant-loop-i
invariant-loop-i l = (length l.out ≡ length l.initial.out) × (put_at l.i (hex_bytes (drop (2 * l.i) l.text)) l.out ≡ at_start (hex_bytes l.text) l.initial.out)
