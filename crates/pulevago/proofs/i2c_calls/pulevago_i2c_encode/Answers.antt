-- `pulevago_i2c_encode` meets its contract: what `i2c::encode` leaves in the output is what its answer's number says. Assumes nothing.
use mathlib.Core.Path.{◌∙◌}
use Rattle.std.specs.Prelude.{Ok, Err}
use Rattle.pulevago.proofs.Answers.{encoded_left}
use Rattle.pulevago.proofs.i2c_calls.pulevago_i2c_encode.Goals as goal

pub returns-in-Ok-clause-out_after : goal.returns-in-Ok-clause-out_after
returns-in-Ok-clause-out_after c =
    let a = c.args in c.in-Ok.ensures.out_after ∙ encoded_left (Ok c.in-Ok.n) a.own a.dest a.pec a.payload.now a.out.now

pub returns-in-Err-clause-out_after : goal.returns-in-Err-clause-out_after
returns-in-Err-clause-out_after c =
    let a = c.args in rw c.from.ensures (c.in-Err.ensures.out_after ∙ encoded_left (Err c.in-Err.refused) a.own a.dest a.pec a.payload.now a.out.now)
