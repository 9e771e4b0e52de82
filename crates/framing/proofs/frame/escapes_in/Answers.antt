-- `framing::frame::escapes_in` adds what the definition adds. Assumes nothing.
use Rattle.std.proofs.Common.{◌≡◌, ◌∙◌, rules, sym}
use Rattle.std.specs.List.{sum_by}
use Rattle.framing.specs.Frame.{escapes_of}
use Rattle.framing.proofs.FrameLaws.{escapes_summed}
use Rattle.framing.proofs.frame.escapes_in.Goals as goal

pub returns : goal.returns
returns c =
    let e : c.sum.result ≡ sum_by escapes_of c.args.packet.now = search rules in
    e ∙ sym (escapes_summed c.args.packet.now)
