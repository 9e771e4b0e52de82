-- `text::hex::put_digits` meets its contract. The loop's invariant: to put the digits of what is left of the bytes from the place on makes
-- the output that is promised. A turn puts those of the first byte of what is left. Assumes nothing.
use Prim.Native.Nat.{ℕ}
use mathlib.Core.Path.{◌∙◌, ap, refl, sym}
use mathlib.Core.List.{List}
use native.Mathlib.Omega.{arith}
use lib.ListN.{length, get_or}
use Rattle.checks.specs.Output.{put_at}
use Rattle.checks.proofs.Each.{each_end, each_room, each_turn}
use Rattle.checks.proofs.Output.{put_none, length_put}
use Rattle.text.specs.Hex.{hex_all, hex_of}
use Rattle.text.proofs.HexLaws.{hex_more, hex_none}
use Rattle.text.proofs.hex.put_digits.Goals as goal

pub put_byte-requires : goal.put_byte-requires
put_byte-requires c =
    omega (arith, each_room hex_of hex_all hex_none hex_more c.args.bytes.now c.loop-b.b-index (omega arith), c.loop-b.invariant)

pub loop-b-preserved : goal.loop-b-preserved
loop-b-preserved c =
    let bytes = c.args.bytes.now in
    let i = c.loop-b.b-index in
    let r = each_room hex_of hex_all hex_none hex_more bytes i (omega arith) in
    let e = c.put_byte.ensures in (
      ap length e ∙ length_put c.loop-b.place (hex_of (get_or bytes i 0)) c.loop-b.out (omega arith) ∙ c.loop-b.invariant.0,
      omega arith,
      each_turn hex_of hex_all hex_none hex_more bytes i c.loop-b.place _ c.loop-b.out _ (omega arith) refl (omega arith) e ∙ c.loop-b.invariant.2,
    )

pub returns : goal.returns
returns c =
    let e = each_end hex_of hex_all hex_none hex_more c.args.bytes.now c.loop-b.b-index (omega arith) in
    let place = c.loop-b.place in
    let out = c.loop-b.out in
    let kept = put_none place out (omega (arith, ap length e)) in
    record {
      value = omega (arith, ap length e, c.loop-b.invariant.1);
      out_after = sym (ap (λ (ys : List ℕ). put_at place ys out) e ∙ kept) ∙ c.loop-b.invariant.2;
    }
