-- `load` meets its contract: by its two tests the buffer holds a state or none; then each field is read where the definition reads it, and the stored bytes
-- are those behind the first four. Assumes nothing.
use Prim.Native.Nat.{ℕ, ◌-◌}
use mathlib.Core.Path.{◌≡◌, ◌∙◌, ap, sym}
use native.Mathlib.Omega.{arith}
use lib.ListN.{drop, get_or, length, length-drop, length-replicate, replicate, take}
use borrow.Author.Rules.{part_to_end}
use Rattle.std.proofs.lemmas.Option.{get_or_from_slice_get, slice_get_within}
use Rattle.checks.proofs.Output.{copied_whole}
use Rattle.serial.specs.declared.receiver.Position.TheVariants.{FrameEnd}
use Rattle.serial.specs.Receiver.{positions, stored_size}
use Rattle.state.specs.State.{state_of, state_size, stored_at}
use Rattle.state.proofs.State.{loaded_known}
use Rattle.state.proofs.buffer.load.Goals as goal

pub returns : goal.returns
returns c =
    let bytes = c.args.bytes.now in
    let size : length bytes ≡ state_size = c.if-bytes-ne-STATE_SIZE.false in
    let whole = part_to_end bytes stored_at in
    let known = c.in-Ok.ensures {u = tt} in
    let most : length (replicate {A = ℕ} stored_size 0) ≡ length (take (length bytes - stored_at) (drop stored_at bytes)) =
    length-replicate {A = ℕ} stored_size 0 ∙ sym (ap length whole ∙ length-drop stored_at bytes ∙ omega arith)
    in
    let fields : _ ≡ state_of bytes =
    λ i.
    record {
      position = sym (get_or_from_slice_get positions (get_or bytes 0 0) c.in-Ok.position FrameEnd known) i;
      count = c.from.ensures i;
      len = (c.from-2.ensures ∙ c.from_be_bytes-len.ensures) i;
      stored = (copied_whole (replicate {A = ℕ} stored_size 0) _ _ c.copy_over.ensures most ∙ whole) i;
    } in
    fields ∙ sym (loaded_known bytes size (slice_get_within positions (get_or bytes 0 0) c.in-Ok.position known))
