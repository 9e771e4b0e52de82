use Prim.Native.Nat.{◌^◌, ◌<◌}
use mathlib.Core.Path.{◌≡◌}
use lib.ListN.{drop}
use Rattle.text.specs.Read.{all_digits, decimal_value, value_from}
use Rattle.text.proofs.decimal.read_decimal.Given as goal

abbrev pub invariant-loop-c : goal.invariant-loop-c
invariant-loop-c l =
    (l.value < 2 ^ 64)
    × (all_digits 10 (drop l.c-index l.text) ≡ all_digits 10 l.text)
    × (value_from l.value (drop l.c-index l.text) ≡ decimal_value l.text)
