-- `checks::pec_from` meets its contract: a turn of its fold is the byte's step, the table's entry by its rule. Assumes nothing.
use Rattle.std.proofs.Common.{◌≡◌, ◌∙◌, ap, arith, rules, get_or, ℕ, List}
use lib.Bits.{bit_xor, xor_lt}
use Rattle.checks.specs.PacketErrorCode.{pec_register}
use Rattle.checks.specs.Register.{bit_steps, byte_step}
use Rattle.checks.proofs.Fold.{folded}
use Rattle.checks.proofs.PacketErrorCode.{pec_below}
use Rattle.checks.proofs.Table.{entry}
use Rattle.checks.proofs.smbus.pec_from.Goals as goal

pub returns : goal.returns
unfolding byte_step
returns c =
    let table = c.pec_table-table.result in
    folded pec_register 256 pec_below c.args.register (omega arith) _ _ c.iter.result c.args.bytes.now c.fold.result
    (λ a x b f' k.
    let e : b ≡ get_or table (bit_xor a x.now) 0 = search rules in
    (λ small byte. e ∙ ap (λ (t : List ℕ). get_or t (bit_xor a x.now) 0) c.pec_table-table.ensures ∙ entry (bit_steps pec_register 8) 256 (bit_xor a x.now) (xor_lt 8 a x.now small byte), search rules))
    c.iter.ensures.rest (λ i. (c.type_inv.bytes i).fits) c.fold.ensures.ran
