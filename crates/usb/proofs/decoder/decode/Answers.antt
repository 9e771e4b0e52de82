-- `decode` meets its contract: each return stands behind the tests that the definition makes, in the same order. Assumes nothing.
use mathlib.Core.Path.{sym}
use native.Mathlib.Omega.{arith}
use Rattle.usb.proofs.DecodeLaws.{bad_length, other_start, too_short, whole}
use Rattle.usb.proofs.decoder.decode.Goals as goal

pub returns-in_default : goal.returns-in_default
returns-in_default c = sym (too_short c.args.input.now (omega arith))

pub returns-then-first-ne-FIRST_BYTE : goal.returns-then-first-ne-FIRST_BYTE
returns-then-first-ne-FIRST_BYTE c = sym (other_start c.args.input.now (omega arith) c.then-first-ne-FIRST_BYTE.either)

pub returns-then-len-lt-HDR_LEN : goal.returns-then-len-lt-HDR_LEN
returns-then-len-lt-HDR_LEN c =
    sym (bad_length c.args.input.now (omega arith) (omega arith) (omega arith) c.from-len.result c.from-len.ensures c.then-len-lt-HDR_LEN.either)

pub returns : goal.returns
returns c =
    sym (whole c.args.input.now (omega arith) (omega arith) (omega arith) c.from-len.result c.from-len.ensures (omega arith) (omega arith))
