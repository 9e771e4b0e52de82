-- `decode_body` meets its contract: its tests are the definition's, in the definition's order. Assumes nothing.
use mathlib.Core.Path.{sym}
use native.Mathlib.Omega.{arith}
use Rattle.i2c.proofs.DecodeLaws.{body_done, body_refused, body_short}
use Rattle.i2c.proofs.decoder.decode_body.Goals as goal

pub returns-in_default : goal.returns-in_default
returns-in_default c = sym (body_short c.args.bytes.now (omega arith))

pub returns-then-from-bytes : goal.returns-then-from-bytes
returns-then-from-bytes c =
    sym (body_refused c.args.bytes.now (omega arith) (λ p q. omega (arith, c.from.ensures, c.then-from-bytes.either)))

pub returns : goal.returns
returns c = sym (body_done c.args.bytes.now (omega arith) (omega (arith, c.from.ensures)) (omega arith))
