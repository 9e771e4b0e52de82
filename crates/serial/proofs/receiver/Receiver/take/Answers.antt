-- `Receiver::take` meets its contract: from a consistent state and with room it says what `take_bytes` took, and a packet of at most 255 bytes is
-- copied; its other answers are the definition's refusals. Assumes nothing.
use borrow.Author.Tests.{le-ltb}
use Rattle.std.proofs.Common.{rules}
use Rattle.serial.specs.Consistency.{Consistent}
use Rattle.serial.proofs.TakerLaws.{took}
use Rattle.serial.proofs.receiver.Receiver.take.Goals as goal

pub copy_packet-requires : goal.copy_packet-requires
copy_packet-requires c =
    let consistent : Consistent c.args.self = record { sized = search rules; fits = search rules } in
    ((took _ _ _ _ _ _ consistent (λ i. (c.type_inv.input i).fits) c.take_bytes-stop.ensures).few_bytes, c.if-out-lt-PACKET_MOST.false)

pub returns-clause-reason_value : goal.returns-clause-reason_value
returns-clause-reason_value c =
    let consistent : Consistent c.args.self = record { sized = search rules; fits = search rules } in
    simp (consistent.fits, le-ltb _ _ c.if-out-lt-PACKET_MOST.false)
    (took _ _ _ _ _ _ consistent (λ i. (c.type_inv.input i).fits) c.take_bytes-stop.ensures).first_packet
