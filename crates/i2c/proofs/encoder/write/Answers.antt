-- `write` meets its contract: four stores make the header, the payload is copied into the part that is lent behind them, what it computes the PEC of
-- are the frame's bytes, and it is stored right behind them. Assumes nothing.
use Prim.Native.Nat.{ℕ, ◌+◌, ◌*◌, ◌≤◌}
use mathlib.Core.Path.{◌≡◌, ◌∙◌, ap, sym}
use mathlib.Core.Bool.{Bool}
use mathlib.Core.List.{List}
use native.Mathlib.Nat.{add-zero}
use native.Mathlib.Omega.{arith}
use lib.ListN.{drop, length, set, take}
use lib.Seq.{take_at}
use borrow.Rule.Slice.PartMut.{put_mid}
use Rattle.checks.specs.Output.{at_start}
use Rattle.checks.specs.PacketErrorCode.{pec_of}
use Rattle.checks.proofs.Output.{four_copied, four_stored, start_next}
use Rattle.i2c.specs.Frame.{addressed, command_code, frame, headed, header_size, plain, with_pec}
use Rattle.i2c.specs.Encode.{frame_size}
use Rattle.i2c.proofs.encoder.write.Goals as goal

-- header and payload: the first byte is written as twice the destination, and defined with a low bit of 0
abbrev stored : ℕ → ℕ → List ℕ → List ℕ → List ℕ
stored own dest payload out = four_stored (dest * 2) command_code (length payload + 1) (own * 2 + 1) out

plain-written : (own dest n : ℕ) (payload out after : List ℕ) → header_size + length payload ≤ length out → n ≡ length payload
    → after ≡ at_start (take (length (take n (drop 4 (stored own dest payload out)))) payload) (take n (drop 4 (stored own dest payload out)))
    → put_mid 4 n (stored own dest payload out) after ≡ at_start (plain own dest payload) out
plain-written own dest n payload out after h size e =
    four_copied _ _ _ _ n payload out after h size e
    ∙ ap (λ (first : ℕ). at_start (headed first (addressed own 1) payload) out) (sym (add-zero (dest * 2)))

-- the PEC of what was written, stored behind it
closed-off : (bytes out made : List ℕ) (end check : ℕ) → 1 + length bytes ≤ length out → end ≡ length bytes → made ≡ at_start bytes out
    → check ≡ pec_of (take end made) → set made end check ≡ at_start (with_pec bytes) out
closed-off bytes out made end check room place em ec =
    let value : check ≡ pec_of bytes =
    ec ∙ ap (λ (d : List ℕ). pec_of (take end d)) em ∙ ap pec_of (take_at bytes (drop (length bytes) out) end (sym place))
    in
    ap (λ (d : List ℕ). set d end check) em
    ∙ ap (λ (n : ℕ). set (at_start bytes out) n check) place
    ∙ ap (λ (k : ℕ). set (at_start bytes out) (length bytes) k) value
    ∙ start_next bytes out (pec_of bytes) (omega arith)

pub returns-then-pec : goal.returns-then-pec
returns-then-pec c =
    let a = c.args in
    let size = ap (λ (b : Bool). frame_size b (length a.payload.now)) c.if-pec.true in
    closed-off (plain a.own a.dest a.payload.now) a.out.now _ _ _ (omega (arith, size)) (omega arith)
    (plain-written a.own a.dest _ a.payload.now a.out.now _ (omega (arith, size)) (omega arith) c.copy_over.ensures) c.pec.ensures
    ∙ ap (λ (b : Bool). at_start (frame a.own a.dest b a.payload.now) a.out.now) (sym c.if-pec.true)
