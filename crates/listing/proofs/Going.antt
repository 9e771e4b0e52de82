-- A listing under way: what the rest of the input gives, from the state and the place reached, completes the packets, the text and the state of the
-- whole. A call of the taker moves it on, since one pass goes on behind the bytes that the call took. Assumes nothing.
use Prim.Native.Nat.{ℕ, ◌+◌, ◌≤◌}
use mathlib.Core.Path.{◌≡◌, ◌∙◌, ap, ap₂, refl, subst, sym}
use mathlib.Core.List.{List, [], ◌++◌}
use native.Mathlib.Nat.{zero-add}
use native.Mathlib.Omega.{arith}
use lib.ListN.{length, drop, length-append}
use Rattle.std.proofs.lemmas.List.{nil_from_length}
use Rattle.checks.specs.Laws.{Bytes}
use Rattle.checks.specs.Output.{put_at}
use Rattle.checks.proofs.Bytes.{bytes_drop}
use Rattle.checks.proofs.Output.{length_put, put_none, put_put}
use Rattle.serial.specs.declared.receiver.Receiver.{Receiver}
use Rattle.serial.specs.Consistency.{Consistent}
use Rattle.serial.specs.Run.{heard, outs_by, packets_of, run_by, run_of}
use Rattle.listing.specs.declared.lines.Turn.{Turn}
use Rattle.listing.specs.Text.{lines_of}
use Rattle.listing.specs.Turn.{next_heard, next_taken, next_turn}
use Rattle.listing.proofs.Said.{Said}
use Rattle.listing.proofs.TextLaws.{lines_append, lines_least}
use Rattle.listing.proofs.TurnLaws.{next-heard, next_kept, next_run, next_some, next_within}

-- of an input from the state s₀ into the output out₀: what is reached is the state s, the rest of the input, `used` bytes of text in `out`, and so many
-- packets
pub record Going (input out₀ : List ℕ) (s₀ : Receiver) (out : List ℕ) (s : Receiver) (rest : List ℕ) (used packets : ℕ) : Type 0 where
  pub bytes : Bytes rest
  pub room : length (lines_of (heard s₀ input)) ≤ length out₀
  pub fits : Consistent s
  pub run : run_of s rest ≡ run_of s₀ input
  pub sized : length out ≡ length out₀
  pub counted : packets + length (heard s rest) ≡ length (heard s₀ input)
  pub measured : used + length (lines_of (heard s rest)) ≡ length (lines_of (heard s₀ input))
  pub text : put_at used (lines_of (heard s rest)) out ≡ put_at 0 (lines_of (heard s₀ input)) out₀

-- at the start
pub begun : (input out : List ℕ) (s : Receiver) → Bytes input → length (lines_of (heard s input)) ≤ length out → Consistent s → Going input out s out s input 0 0
begun input out s bytes room fits = record {
  bytes = bytes;
  room = room;
  fits = fits;
  run = refl;
  sized = refl;
  counted = zero-add _;
  measured = zero-add _;
  text = refl;
}

module _ {input out₀ : List ℕ} {s₀ : Receiver} {out : List ℕ} {s : Receiver} {rest : List ℕ} {used packets : ℕ} (g : Going input out₀ s₀ out s rest used packets) where
  pub rest_fits : used + length (lines_of (heard s rest)) ≤ length out
  rest_fits = omega (arith, g.measured, g.sized, g.room)

  -- a call
  module _ {turn : Turn} {left : List ℕ} (said : Said s rest used out turn left) where
    -- what the turn has
    made : {A : Type 0} (part : Turn → A) → part turn ≡ part (next_turn s rest used)
    made part = ap part said.value

    taken_made : turn.taken ≡ (next_taken s rest).taken
    taken_made = made (λ (t : Turn). t.taken)

    state_made : turn.state ≡ (next_taken s rest).state
    state_made = made (λ (t : Turn). t.state)

    used_made : turn.used ≡ used + length (lines_of (next_heard s rest))
    used_made = made (λ (t : Turn). t.used)

    packets_made : turn.packets ≡ length (next_heard s rest)
    packets_made = made (λ (t : Turn). t.packets)

    first : List (List ℕ)
    first = next_heard s rest

    later : List (List ℕ)
    later = heard turn.state (drop turn.taken rest)

    goes_on : heard s rest ≡ first ++ later
    unfolding first later
    goes_on =
        next-heard s rest g.fits
        ∙ ap₂ (λ (u : Receiver) (n : ℕ). next_heard s rest ++ heard u (drop n rest)) (sym state_made) (sym taken_made)

    lines_go_on : lines_of (heard s rest) ≡ lines_of first ++ lines_of later
    lines_go_on = ap lines_of goes_on ∙ lines_append first later

    pub taken_within : turn.taken ≤ length rest
    taken_within = omega (arith, taken_made, next_within s rest g.fits)

    pub taken_some : 1 ≤ length rest → 1 ≤ turn.taken
    taken_some h = omega (arith, taken_made, next_some s rest g.fits h)

    pub counted_within : packets + turn.packets ≤ length out₀
    unfolding first
    counted_within =
        omega (arith, g.counted, packets_made, ap length goes_on, length-append first later, lines_least (heard s₀ input), g.room)

    pub moved : Going input out₀ s₀ left turn.state (drop turn.taken rest) turn.used (packets + turn.packets)
    unfolding first later
    moved =
        let text = length-append (lines_of first) (lines_of later) in
        record {
          bytes = bytes_drop turn.taken rest g.bytes;
          room = g.room;
          fits = subst Consistent (sym state_made) (next_kept s rest g.fits g.bytes);
          run =
              ap₂ (λ (u : Receiver) (n : ℕ). run_of u (drop n rest)) state_made taken_made
              ∙ sym (next_run s rest g.fits) ∙ g.run;
          sized =
              ap length said.out_after
              ∙ length_put used (lines_of first) out (omega (arith, text, ap length lines_go_on, g.measured, g.sized, g.room))
              ∙ g.sized;
          counted = omega (arith, g.counted, packets_made, ap length goes_on, length-append first later);
          measured = omega (arith, g.measured, used_made, ap length lines_go_on, text);
          text =
              ap₂ (λ (n : ℕ) (xs : List ℕ). put_at n (lines_of later) xs) used_made said.out_after
              ∙ put_put used (lines_of first) (lines_of later) out (omega (arith, text, ap length lines_go_on, g.measured, g.sized, g.room))
              ∙ ap (λ (xs : List ℕ). put_at used xs out) (sym lines_go_on)
              ∙ g.text;
        }

-- the rest of an input whose end is reached gives nothing
none_heard : (s : Receiver) → heard s [] ≡ []
unfolding outs_by packets_of
none_heard s = refl

-- at its end all is done
pub ended : {input out₀ : List ℕ} {s₀ : Receiver} {out : List ℕ} {s : Receiver} {rest : List ℕ} {used packets : ℕ}
    → Going input out₀ s₀ out s rest used packets → length rest ≡ 0
    → (used ≡ length (lines_of (heard s₀ input))) × (packets ≡ length (heard s₀ input)) × (s ≡ run_of s₀ input)
    × (out ≡ put_at 0 (lines_of (heard s₀ input)) out₀)
unfolding run_by lines_of
ended {input} {out₀} {s₀} {out} {s} {rest} {used} g h =
    let end = nil_from_length rest h in
    let none = ap (heard s) end ∙ none_heard s in
    let no_text : lines_of (heard s rest) ≡ [] = ap lines_of none in (
      omega (arith, g.measured, ap length no_text),
      omega (arith, g.counted, ap length none),
      sym (ap (run_of s) end) ∙ g.run,
      sym (ap (λ (xs : List ℕ). put_at used xs out) no_text ∙ put_none used out (omega (arith, g.measured, ap length no_text, g.sized, g.room))) ∙ g.text,
    )
