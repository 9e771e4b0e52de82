-- What decode makes of bytes with their PEC behind them, and what it takes: an input with a source is its own PEC behind a header and a payload,
-- since each check asks for one of these parts. Assumes nothing.
use Prim.Native.Nat.{ℕ, ◌-◌, ◌≤◌}
use mathlib.Core.Path.{◌≡◌, ◌∙◌, ap, ap₂, refl, subst, sym}
use mathlib.Core.Bool.{Bool, true, false, cond}
use mathlib.Core.List.{List, [], ◌∷◌, ◌++◌}
use native.Mathlib.Omega.{arith}
use lib.Dec.{eqb}
use lib.ListN.{drop, get_or, length, length-append, length-drop, take}
use lib.Seq.{drop-append-le, length-take-le, take_at}
use borrow.Author.Rules.{part_to_end}
use Rattle.checks.specs.Numbers.{Answer, answer, done}
use Rattle.checks.specs.PacketErrorCode.{pec_of}
use Rattle.checks.specs.Part.{Inside, Part, bytes_of, no_part, part}
use Rattle.checks.proofs.Last.{front_append, front_last, last_append}
use Rattle.i2c.specs.declared.decoder.DecodeError.TheVariants.{InvalidInput}
use Rattle.i2c.specs.Decode.{body, body_answer, but_last, decode_answer, payload_part}
use Rattle.i2c.specs.Frame.{closed, headed, header_size, with_pec}
use Rattle.i2c.specs.Laws.{NotTested, OnlyFrames, PayloadInside, PecOnly, WrongPecRefused}
use Rattle.i2c.proofs.DecodeLaws.{Headed, accepts, closed_taken, decides, decode_plain, decode_right, decode_taken, decode_wrong, part_refused, part_taken, refuses}

-- an input with a byte behind it is not empty
one_more : (bytes : List ℕ) (b : ℕ) → length (bytes ++ (b ∷ [])) ≡ 0 → ⊥
one_more bytes b e = omega (arith, length-append bytes (b ∷ []))

pub wrong_pec_refused : WrongPecRefused
wrong_pec_refused bytes b wrong =
    decode_wrong true (bytes ++ (b ∷ [])) refl (one_more bytes b)
    (λ e. wrong (sym (last_append bytes b) ∙ sym e ∙ ap pec_of (front_append bytes b)))

pub pec_only : PecOnly
unfolding payload_part
pec_only bytes =
    let front = front_append bytes (pec_of bytes) in
    let same : decode_answer true (with_pec bytes) ≡ decode_answer false bytes =
    decode_right true (with_pec bytes) refl (one_more bytes (pec_of bytes)) (ap pec_of front ∙ sym (last_append bytes (pec_of bytes)))
    ∙ ap body_answer front
    ∙ sym (decode_plain false bytes refl)
    in
    (same, ap₂ (λ (a : Answer) (xs : List ℕ). cond (eqb a.number done) (part header_size (length xs - header_size)) no_part) same front)

-- the body is not longer than the input
body_within : (pec : Bool) (input : List ℕ) → length (body pec input) ≤ length input
body_within true input = omega (arith, length-take-le (length input - 1) input (omega arith))
body_within false input = omega arith

pub payload_inside : PayloadInside
payload_inside pec input = elim (decides pec input) [
  | accepts source e ↦
      let long = (decode_taken pec input source e).long in
      subst (λ (p : Part). Inside p (length input)) (sym (part_taken pec input (source ∷ []) e)) (omega (arith, body_within pec input))
  | refuses e ↦ subst (λ (p : Part). Inside p (length input)) (sym (part_refused pec input InvalidInput e)) (omega arith)
]

pub not_tested : NotTested
unfolding decode_answer body_answer payload_part
not_tested dest dest' command count source source' rest e = (rw e, rw e)

-- ---- bytes of which a source is answered, closed by their PEC or not

-- the answer is the same
pub decode_closed : (pec : Bool) (bytes : List ℕ) → decode_answer pec (closed pec bytes) ≡ decode_answer false bytes
decode_closed true bytes = (pec_only bytes).0
decode_closed false bytes = refl

-- and the payload is what stands behind the header
pub payload_closed : (pec : Bool) (bytes : List ℕ) (source : ℕ) → decode_answer false bytes ≡ answer done (source ∷ [])
    → bytes_of (payload_part pec (closed pec bytes)) (closed pec bytes) ≡ drop header_size bytes
payload_closed false bytes source e =
    ap (λ (p : Part). bytes_of p bytes) (part_taken false bytes (source ∷ []) e) ∙ part_to_end bytes header_size
payload_closed true bytes source e =
    let long : header_size ≤ length bytes = (decode_taken false bytes source e).long in
    ap (λ (p : Part). bytes_of p (with_pec bytes)) ((pec_only bytes).1 ∙ part_taken false bytes (source ∷ []) e)
    ∙ ap (take (length bytes - header_size)) (drop-append-le header_size bytes (pec_of bytes ∷ []) long)
    ∙ take_at (drop header_size bytes) (pec_of bytes ∷ []) (length bytes - header_size) (length-drop header_size bytes)

-- ---- nothing else is accepted

-- an input is what it is without its PEC, closed again
closed_again : (pec : Bool) (input : List ℕ) (source : ℕ) → decode_answer pec input ≡ answer done (source ∷ []) → input ≡ closed pec (body pec input)
closed_again false input source e = refl
closed_again true input source e =
    let t = closed_taken input source e in
    front_last input (omega (arith, t.some)) ∙ ap (λ (b : ℕ). but_last input ++ (b ∷ [])) (sym t.agrees)

-- and that is its payload, headed again
headed_again : (bytes : List ℕ) (source : ℕ) → Headed bytes source → bytes ≡ headed (get_or bytes 0 0) (get_or bytes 3 0) (drop header_size bytes)
headed_again [] source h = absurd (omega (arith, h.long))
headed_again (a ∷ []) source h = absurd (omega (arith, h.long))
headed_again (a ∷ b ∷ []) source h = absurd (omega (arith, h.long))
headed_again (a ∷ b ∷ c ∷ []) source h = absurd (omega (arith, h.long))
headed_again (a ∷ b ∷ c ∷ d ∷ rest) source h =
    ap₂ (λ (command count : ℕ). a ∷ command ∷ count ∷ d ∷ rest) h.command (omega (arith, h.counted))

pub only_frames : OnlyFrames
only_frames pec input source e =
    let bytes = body pec input in
    let again = closed_again pec input source e in
    let same : decode_answer false bytes ≡ answer done (source ∷ []) = sym (decode_closed pec bytes) ∙ ap (decode_answer pec) (sym again) ∙ e in
    let h = decode_taken false bytes source same in
    let behind : bytes_of (payload_part pec input) input ≡ drop header_size bytes =
    ap (λ (xs : List ℕ). bytes_of (payload_part pec xs) xs) again ∙ payload_closed pec bytes source same
    in
    record {
      first = get_or bytes 0 0;
      fourth = get_or bytes 3 0;
      parts = again ∙ ap (closed pec) (headed_again bytes source h ∙ ap (headed (get_or bytes 0 0) (get_or bytes 3 0)) (sym behind));
      halved = h.halved;
    }
