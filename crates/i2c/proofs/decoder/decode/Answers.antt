-- `decode` meets its contract: it tests the PEC as the definition does, and leaves header and payload to `decode_body`. Assumes nothing.
use mathlib.Core.Path.{◌∙◌, sym}
use native.Mathlib.Omega.{arith}
use Rattle.i2c.proofs.DecodeLaws.{decode_empty, decode_plain, decode_right, decode_wrong}
use Rattle.i2c.proofs.decoder.decode.Goals as goal

pub returns-then-not-pec : goal.returns-then-not-pec
returns-then-not-pec c = c.decode_body.ensures ∙ sym (decode_plain c.args.pec c.args.input.now c.if-not-pec.true)

pub returns-in_default : goal.returns-in_default
returns-in_default c = sym (decode_empty c.args.pec c.args.input.now c.if-not-pec.false (omega arith))

pub returns-then-pec-last : goal.returns-then-pec-last
returns-then-pec-last c =
    sym (decode_wrong c.args.pec c.args.input.now c.if-not-pec.false (λ e. omega arith) (λ e. c.if-pec-last.true (c.pec.ensures ∙ e)))

pub returns : goal.returns
returns c =
    c.decode_body-2.ensures
    ∙ sym (decode_right c.args.pec c.args.input.now c.if-not-pec.false (λ e. omega arith) (sym c.pec.ensures ∙ c.if-pec-last.false))
