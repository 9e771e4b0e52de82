-- `checks::frame_check_from` meets its contract: a turn of its fold is the byte's step, by the table. The register is kept in 32 bits, and 16 hold it.
-- Assumes nothing.
use Rattle.std.proofs.Common.{◌≡◌, ◌∙◌, ◌/◌, ◌%◌, arith, rules, get_or}
use lib.Bits.{bit_xor}
use Rattle.checks.specs.FrameCheck.{frame_register}
use Rattle.checks.specs.Laws.{Bytes}
use Rattle.checks.proofs.Fold.{folded}
use Rattle.checks.proofs.FrameCheck.{frame_below, frame_fits}
use Rattle.checks.proofs.FrameStep.{by_table}
use Rattle.checks.proofs.frame.frame_check_from.Goals as goal

pub returns : goal.returns
returns c =
    let table = c.frame_table-table.result in
    folded frame_register 65536 frame_below c.args.register (omega arith) _ _ c.iter.result c.args.bytes.now c.fold-reg.result
    (λ a x b f' k.
    let e : b ≡ bit_xor (a / 256) (get_or table (bit_xor a x.now % 256) 0) = search rules in
    (λ small byte. e ∙ by_table table a x.now c.frame_table-table.ensures byte, search rules))
    c.iter.ensures.rest (λ i. (c.type_inv.bytes i).fits) c.fold-reg.ensures.ran

pub overflow_cast-result : goal.overflow_cast-result
overflow_cast-result c =
    let small : Bytes c.args.bytes.now = λ i. (c.type_inv.bytes i).fits in
    record { fits = frame_fits c.args.bytes.now c.args.register c.fold-reg.result (omega arith) small (returns c) }
