-- `header` meets its contract: its tests are the definition's, and four stores into four bytes make the header. Assumes nothing.
use Prim.Native.Nat.{ℕ, ◌+◌, ◌<◌}
use mathlib.Core.Path.{◌≡◌, ◌∙◌, ap, refl}
use mathlib.Core.List.{List, [], ◌++◌}
use mathlib.Core.Logic.{◌⊎◌, inl, inr}
use native.Mathlib.Omega.{arith}
use lib.ListN.{drop_of_length-le, length, set}
use borrow.Author.Tests.{eq-eqb, le-leb, lt-leb, ne_eqb}
use Rattle.checks.specs.Numbers.{answer}
use Rattle.checks.proofs.Output.{put_four}
use Rattle.usb.specs.Header.{first_byte, header_answer, header_of, header_output, header_size, packet_most, second_byte}
use Rattle.usb.specs.Numbers.{bad_packet}
use Rattle.usb.proofs.head.header.Goals as goal

-- the four bytes are stored one behind the other, and nothing is behind them
four-stores : (d : List ℕ) (size : ℕ) → length d ≡ header_size
    → set (set (set (set d 0 first_byte) 1 second_byte) 2 0x00) 3 (size + header_size) ≡ header_of size
four-stores d size e =
    put_four 0 first_byte second_byte 0x00 (size + header_size) d (omega arith)
    ∙ ap (λ (behind : List ℕ). header_of size ++ behind) (drop_of_length-le d {i = header_size} (omega arith))

-- either test refuses
refused : (size room : ℕ) → (room ≡ header_size → ⊥) ⊎ ((room ≡ header_size) × (packet_most < size)) → answer bad_packet [] ≡ header_answer size room
unfolding header_answer
refused size room (inl wrong) = simp (ne_eqb room header_size wrong)
refused size room (inr (right, over)) = simp (eq-eqb room header_size right, lt-leb size packet_most over)

pub returns-then-out-ne-HDR_LEN : goal.returns-then-out-ne-HDR_LEN
unfolding header_output
returns-then-out-ne-HDR_LEN c =
    record { result_value = refused c.args.size (length c.args.out.now) c.then-out-ne-HDR_LEN.either; out_after = refl }

pub returns : goal.returns
unfolding header_answer header_output
returns c = record {
  result_value = simp (eq-eqb _ _ c.if-out-ne-HDR_LEN.false, le-leb _ _ c.if-size-gt-MCTP_USB_MTU_MAX.false);
  out_after = four-stores c.args.out.now c.args.size c.if-out-ne-HDR_LEN.false;
}
