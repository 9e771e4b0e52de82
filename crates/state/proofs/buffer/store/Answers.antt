-- `store` meets its contract: a buffer of another size is left, a state that is too large leaves a first byte that is no position's number, and of any other
-- four stores and a copy behind them write the state's bytes, which fill the buffer. Assumes nothing.
use Prim.Native.Nat.{ℕ, ◌/◌, ◌%◌, ◌-◌}
use mathlib.Core.Path.{◌≡◌, ◌∙◌, ap, sym}
use mathlib.Core.List.{List, ◌∷◌, ◌++◌, append-nil}
use native.Mathlib.Omega.{arith}
use lib.ListN.{get_or, drop, drop_of_length-le, length, take}
use borrow.Author.Rules.{rules}
use Rattle.checks.specs.Output.{at_start}
use borrow.Rule.Slice.PartMut.{put_mid}
use Rattle.checks.proofs.Output.{four_copied, four_length, four_stored}
use Rattle.serial.specs.Receiver.{stored_size}
use Rattle.state.specs.State.{state_size}
use Rattle.state.proofs.State.{left_stored, small}
use Rattle.state.proofs.buffer.store.Goals as goal

-- bytes that fill a buffer leave nothing of what it held
filled : (a b c d : ℕ) (stored out : List ℕ) → length stored ≡ stored_size → length out ≡ state_size
    → at_start (a ∷ b ∷ c ∷ d ∷ stored) out ≡ a ∷ b ∷ c ∷ d ∷ stored
filled a b c d stored out size room =
    let bytes : List ℕ = a ∷ b ∷ c ∷ d ∷ stored in
    ap (λ (rest : List ℕ). bytes ++ rest) (drop_of_length-le out {i = length bytes} (omega arith)) ∙ append-nil bytes

-- the buffer after four stores and a copy behind them
stored-all : (a b c d : ℕ) (stored bytes made : List ℕ) → length stored ≡ stored_size → length bytes ≡ state_size
    → made ≡ at_start (take (length (take (length (four_stored a b c d bytes) - 4) (drop 4 (four_stored a b c d bytes)))) stored)
    (take (length (four_stored a b c d bytes) - 4) (drop 4 (four_stored a b c d bytes)))
    → put_mid 4 (length (four_stored a b c d bytes) - 4) (four_stored a b c d bytes) made ≡ a ∷ b ∷ c ∷ d ∷ stored
stored-all a b c d stored bytes made size room e =
    four_copied a b c d _ stored bytes made (omega arith) (omega (arith, four_length a b c d bytes)) e ∙ filled a b c d stored bytes size room

pub returns : goal.returns
returns c =
    let room = c.if-bytes-ne-STATE_SIZE.false in
    let r = c.args.receiver in
    let size : length r.stored ≡ stored_size = search rules in
    let high : get_or c.to_be_bytes.result 0 0 ≡ r.len / 256 = ap (λ (bytes : List ℕ). get_or bytes 0 0) c.to_be_bytes.ensures ∙ omega (arith, small r c.if-count-len.false) in
    let low : get_or c.to_be_bytes.result 1 0 ≡ r.len % 256 = ap (λ (bytes : List ℕ). get_or bytes 1 0) c.to_be_bytes.ensures in
    stored-all _ _ _ _ r.stored c.args.bytes.now _ size room c.copy_over.ensures
    ∙ (λ i. c.from.ensures i ∷ r.count ∷ high i ∷ low i ∷ r.stored)
    ∙ sym (left_stored c.args.bytes.now r room c.if-count-len.false)
