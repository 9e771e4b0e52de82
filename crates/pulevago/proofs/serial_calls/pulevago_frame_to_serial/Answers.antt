-- `pulevago_frame_to_serial` meets its contract: the output is left by the number of the writer's answer. Assumes nothing.
use Rattle.std.proofs.Common.{◌∙◌, ap, Err, sym, ℕ}
use Rattle.checks.specs.Output.{at_start}
use Rattle.framing.specs.Frame.{frame}
use Rattle.framing.specs.Writer.{output_of}
use Rattle.pulevago.specs.Lent.{given}
use Rattle.pulevago.proofs.Answers.{frame_left}
use Rattle.pulevago.proofs.serial_calls.pulevago_frame_to_serial.Goals as goal

pub returns-in-Ok-clause-out_after : goal.returns-in-Ok-clause-out_after
unfolding output_of
returns-in-Ok-clause-out_after c = c.in-Ok.ensures.out_after

pub returns-in-Err-clause-out_after : goal.returns-in-Err-clause-out_after
returns-in-Err-clause-out_after c =
    let packet = c.args.packet.now in
    let out = c.args.out.now in
    c.in-Err.ensures.out_after
    ∙ frame_left (Err c.in-Err.refusal) packet out
    ∙ ap (λ (n : ℕ). given n out (at_start (frame packet) out)) (sym c.from.ensures)
