-- The loop's invariant: taking on from here is taking from the start, and the state stays consistent.
use Prim.Native.Nat.{◌-◌}
use mathlib.Core.Path.{◌≡◌}
use lib.ListN.{drop}
use Rattle.serial.specs.Consistency.{Consistent}
use Rattle.serial.specs.Taker.{take_from}
use Rattle.serial.proofs.receiver.Receiver.take_bytes.Given as goal

abbrev pub invariant-loop-i : goal.invariant-loop-i
invariant-loop-i l = record {
  goes_on : take_from (drop l.i l.input) (l.allowance - l.i) l.self l.i ≡ take_from l.input l.allowance l.fn.self 0;
  consistent : Consistent l.self;
}
