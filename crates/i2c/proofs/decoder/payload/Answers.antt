-- `payload` meets its contract: where decode gives a source, what it returns is the input from behind the header on, up to the PEC or to its end;
-- the checks that decode made keep that part within the input. Assumes nothing.
use mathlib.Core.Path.{sym}
use native.Mathlib.Omega.{arith}
use Rattle.checks.proofs.Part.{empty_part, equal_parts}
use Rattle.i2c.proofs.DecodeLaws.{part_refused, payload_lies, payload_starts}
use Rattle.i2c.proofs.decoder.payload.Goals as goal

pub slice_bounds-result-count : goal.slice_bounds-result-count
slice_bounds-result-count c =
    omega (arith, payload_starts c.args.pec c.args.input.now c.in-Ok.field-0 c.from.result (sym c.in-Ok.ensures) c.from.ensures)

pub overflow_sub-result : goal.overflow_sub-result
overflow_sub-result c = omega (arith, slice_bounds-result-count c)

pub slice_bounds-result-start : goal.slice_bounds-result-start
slice_bounds-result-start c = slice_bounds-result-count c

pub returns-in-Ok : goal.returns-in-Ok
returns-in-Ok c =
    equal_parts c.args.input _ _ (sym (payload_lies c.args.pec c.args.input.now c.in-Ok.field-0 c.from.result (sym c.in-Ok.ensures) c.from.ensures))

pub returns-in-Err : goal.returns-in-Err
returns-in-Err c = empty_part c.args.input _ (part_refused c.args.pec c.args.input.now c.in-Err.field-0 (sym c.in-Err.ensures))
