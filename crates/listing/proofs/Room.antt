-- The room that `list` asks is enough: each byte fed adds at most two bytes to the text that is written or in store, where a stored byte of a frame
-- counts two. Assumes nothing.
use Prim.Native.Nat.{ℕ, suc, ◌+◌, ◌*◌, ◌≤◌}
use mathlib.Core.Path.{◌≡◌, subst, sym}
use mathlib.Core.List.{List, [], ◌∷◌}
use native.Mathlib.Nat.{le_refl, min-le_left, zero-add}
use native.Mathlib.Omega.{arith}
use lib.Dec.{eqb}
use lib.ListN.{length, drop, take, length-append, length-take}
use Rattle.std.proofs.Common.{None, Some, Ok, Err}
use Rattle.checks.specs.Laws.{Bytes}
use Rattle.checks.proofs.Choice.{by_cond}
use Rattle.serial.specs.declared.receiver.Position.{Position}
use Rattle.serial.specs.declared.receiver.Position.TheVariants.{FrameSearch, SerialRevision, ByteCount, Data, DataEscaped, Check, FrameEnd}
use Rattle.serial.specs.declared.receiver.Receiver.{Receiver}
use Rattle.serial.specs.declared.receiver.Stepped.{Stepped}
use Rattle.serial.specs.Consistency.{Consistent}
use Rattle.framing.specs.Frame.{escape, escape_escaped, flag, flag_escaped}
use Rattle.serial.specs.Receiver.{Outcome, byte_count_row, check_row, data_escaped_row, data_row, frame_end_row, frame_search_row, hands_out, row_of, serial_revision_row, step_of}
use Rattle.serial.specs.Run.{emit, outs_by, outs_of, packet_in, packets_of}
use Rattle.serial.proofs.Consistent.{FitsAt, facts, row-of}
use Rattle.serial.proofs.Keeps.{keeps}
use Rattle.listing.specs.Laws.{TextFits}
use Rattle.text.specs.Hex.{line_of}
use Rattle.text.proofs.HexLaws.{line_length}
use Rattle.listing.specs.Text.{lines_of}

-- the text in store: two bytes for each stored byte of a frame under way
weight_at : Position → ℕ → ℕ
weight_at FrameSearch l = 0
weight_at SerialRevision l = 0
weight_at ByteCount l = 2 * l
weight_at Data l = 2 * l
weight_at DataEscaped l = 2 * l
weight_at Check l = 2 * l
weight_at FrameEnd l = 2 * l

weight : Receiver → ℕ
weight s = weight_at s.position s.len

light : (p : Position) (l : ℕ) → weight_at p l ≤ 2 * l
unfolding weight_at
light FrameSearch l = omega arith
light SerialRevision l = omega arith
light ByteCount l = le_refl (2 * l)
light Data l = le_refl (2 * l)
light DataEscaped l = le_refl (2 * l)
light Check l = le_refl (2 * l)
light FrameEnd l = le_refl (2 * l)

-- the text that an outcome writes
written : Outcome → Receiver → ℕ
written (Ok None) s = 0
written (Ok (Some n)) s = length (line_of (packet_in n s))
written (Err e) s = 0

written_most : (n : ℕ) (s : Receiver) → written (Ok (Some n)) s ≤ 2 * n + 1
unfolding written
written_most n s =
    let few : length (take n (drop 2 s.stored)) ≤ n = omega (arith, length-take n (drop 2 s.stored), min-le_left n (length (drop 2 s.stored))) in
    omega (arith, line_length (packet_in n s))

-- one byte more stored, or none
grown : (l : ℕ) (s : Receiver) → s.len ≤ l + 1 → weight s ≤ 2 * l + 2
unfolding weight
grown l s h = omega (arith, light s.position s.len)

module _ (s : Receiver) (b : ℕ) where
  -- what a byte writes and leaves in store
  abbrev Adds : ℕ → Stepped → Type 0
  Adds w r = written r.outcome r.state + weight r.state ≤ w + 2

  count_len : (byte_count_row b s).len ≤ s.len + 1
  count_len = by_cond (λ (r : Receiver). r.len ≤ s.len + 1) (eqb b 0) _ _ (λ e. omega arith) (λ e. le_refl _)

  data_len : (data_row b s).len ≤ s.len + 1
  data_len =
      by_cond (λ (r : Receiver). r.len ≤ s.len + 1) (eqb b flag) _ _ (λ e. omega arith)
      (λ e. by_cond (λ (r : Receiver). r.len ≤ s.len + 1) (eqb b escape) _ _ (λ f. omega arith) (λ f. le_refl _))

  escaped_len : (data_escaped_row b s).len ≤ s.len + 1
  escaped_len =
      by_cond (λ (r : Receiver). r.len ≤ s.len + 1) (eqb b flag_escaped) _ _ (λ e. le_refl _)
      (λ e. by_cond (λ (r : Receiver). r.len ≤ s.len + 1) (eqb b escape_escaped) _ _ (λ f. le_refl _) (λ f. omega arith))

  -- in FrameSearch and behind FrameEnd nothing is in store
  none_search : weight (frame_search_row b s) ≤ 0
  unfolding weight weight_at
  none_search = by_cond (λ (p : Position). weight_at p s.len ≤ 0) (eqb b flag) _ _ (λ e. omega arith) (λ e. omega arith)

  none_end : weight (frame_end_row b s) ≤ 0
  unfolding weight weight_at
  none_end = by_cond (λ (p : Position). weight_at p s.len ≤ 0) (eqb b flag) _ _ (λ e. omega arith) (λ e. omega arith)

  row_adds : (p : Position) → FitsAt p s.count s.len s.stored → Adds (weight_at p s.len) (row_of p b s)
  unfolding row_of written weight_at
  row_adds FrameSearch f = omega (arith, none_search)
  row_adds SerialRevision f = omega (arith, grown 0 (serial_revision_row b s) (omega arith))
  row_adds ByteCount f = omega (arith, grown s.len (byte_count_row b s) count_len)
  row_adds Data f = omega (arith, grown s.len (data_row b s) data_len)
  row_adds DataEscaped f = omega (arith, grown s.len (data_escaped_row b s) escaped_len)
  row_adds Check f = omega (arith, grown s.len (check_row b s) (le_refl _))
  row_adds FrameEnd f =
      by_cond (Adds (2 * s.len)) (hands_out b s) _ _
      (λ e. omega (arith, none_end, written_most s.count (frame_end_row b s), f.1))
      (λ e. omega (arith, none_end))

step_adds : (s : Receiver) (b : ℕ) → Consistent s → Adds s b (weight s) (step_of b s)
unfolding weight
step_adds s b c =
    subst (Adds s b (weight_at s.position s.len)) (sym (row-of s b c.fits)) (row_adds s b s.position (facts s c.fits).here)

emit_written : (o : Outcome) (s : Receiver) (i : ℕ) (rest : List (ℕ × List ℕ))
    → length (lines_of (packets_of (emit o s i rest))) ≡ written o s + length (lines_of (packets_of rest))
unfolding lines_of packets_of written
emit_written (Ok None) s i rest = sym (zero-add _)
emit_written (Ok (Some n)) s i rest = length-append (line_of (packet_in n s)) (lines_of (packets_of rest))
emit_written (Err e) s i rest = sym (zero-add _)

bounded : (i : ℕ) (s : Receiver) (bytes : List ℕ) → Consistent s → Bytes bytes
    → length (lines_of (packets_of (outs_of i s bytes))) ≤ weight s + 2 * length bytes
unfolding outs_by lines_of packets_of
bounded i s [] c h = omega arith
bounded i s (b ∷ bs) c h =
    let next = (step_of b s).state in
    let rest = bounded (i + 1) next bs (keeps s b c (h 0)) (λ (j : ℕ). h (suc j)) in
    omega (arith, emit_written (step_of b s).outcome next i (outs_of (i + 1) next bs), step_adds s b c, rest)

pub text_fits : TextFits
unfolding weight
text_fits s input c h =
    omega (arith, bounded 0 s input c h, light s.position s.len, (facts s c.fits).len_most)
