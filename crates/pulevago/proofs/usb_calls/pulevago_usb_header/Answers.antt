-- `pulevago_usb_header` meets its contract: what `usb::header` leaves in the lent header is what its answer's number says. Assumes nothing.
use mathlib.Core.Path.{◌∙◌}
use Rattle.std.specs.Prelude.{Ok, Err}
use Rattle.pulevago.proofs.Answers.{header_left}
use Rattle.pulevago.proofs.usb_calls.pulevago_usb_header.Goals as goal

pub returns-in-Ok-clause-out_after : goal.returns-in-Ok-clause-out_after
returns-in-Ok-clause-out_after c = c.in-Ok.ensures.out_after ∙ header_left (Ok tt) c.args.size c.args.out.now

pub returns-in-Err-clause-out_after : goal.returns-in-Err-clause-out_after
returns-in-Err-clause-out_after c = rw c.from.ensures (c.in-Err.ensures.out_after ∙ header_left (Err c.in-Err.refused) c.args.size c.args.out.now)
