-- Laws of decode's definitions: what each check makes of the answer, and back, what an answer tells of the input. The definition tests one thing
-- after the other, so each test's outcome gives the answer, and a source is answered only behind all of them. Assumes nothing.
use Prim.Native.Nat.{ℕ, ◌-◌, ◌/◌, ◌≤◌, ◌<◌}
use mathlib.Core.Path.{◌≡◌, ◌∙◌, ap, refl}
use mathlib.Core.Bool.{Bool, true, false, cond, not, ◌&&◌}
use mathlib.Core.List.{List, [], ◌∷◌}
use native.Mathlib.Omega.{arith}
use lib.Dec.{eqb, ltb}
use lib.ListN.{length, get_or}
use borrow.Author.Tests.{eq-eqb, eqb-false, eqb-true, le-ltb, lt-ltb, ltb-false, ne_eqb}
use lib.Seq.{length-take-le}
use Rattle.std.specs.Int.{from_bool}
use Rattle.checks.specs.Numbers.{Answer, answer, done}
use Rattle.checks.specs.PacketErrorCode.{pec_of}
use Rattle.checks.specs.Part.{no_part, part}
use Rattle.checks.proofs.Choice.{by_cond}
use Rattle.checks.proofs.Numbers.{same_number, same_value}
use Rattle.i2c.specs.declared.decoder.DecodeError.{DecodeError}
use Rattle.i2c.specs.declared.decoder.DecodeError.TheVariants.{InvalidInput}
use Rattle.i2c.specs.Decode.{body, body_answer, but_last, decode_answer, decode_error_number, last_byte, payload_part}
use Rattle.i2c.specs.Frame.{byte_count, command_code, header_size}
use Rattle.i2c.specs.Numbers.{invalid_input}

-- a refusal is not a source
not_done : (vs : List ℕ) → answer invalid_input [] ≡ answer done vs → ⊥
not_done vs e = omega (arith, same_number e)

-- what an answer of decode can be: a source, or a refusal
pub data Decides (a : Answer) : Type 0 where
  accepts : (source : ℕ) → a ≡ answer done (source ∷ []) → Decides a
  refuses : a ≡ answer invalid_input [] → Decides a

-- ---- header and payload

-- each check that refuses, where those before it do not
pub body_short : (bytes : List ℕ) → length bytes < header_size → body_answer bytes ≡ answer invalid_input []
unfolding body_answer
body_short bytes h = simp (lt-ltb (length bytes) header_size h)

-- either test refuses: the count's, or the command code's
pub body_refused : (bytes : List ℕ) → header_size ≤ length bytes
    → (get_or bytes 2 0 ≡ byte_count (length bytes - header_size) → get_or bytes 1 0 ≡ command_code → ⊥) → body_answer bytes ≡ answer invalid_input []
unfolding body_answer
body_refused bytes h wrong = go (eqb (get_or bytes 2 0) (byte_count (length bytes - header_size))) (eqb (get_or bytes 1 0) command_code) refl refl
  where
    go : (count command : Bool) → eqb (get_or bytes 2 0) (byte_count (length bytes - header_size)) ≡ count → eqb (get_or bytes 1 0) command_code ≡ command
        → body_answer bytes ≡ answer invalid_input []
    go false command p q = simp (le-ltb (length bytes) header_size h, p)
    go true false p q = simp (le-ltb (length bytes) header_size h, p, q)
    go true true p q = absurd (wrong (eqb-true _ _ p) (eqb-true _ _ q))

-- and where none refuses
pub body_done : (bytes : List ℕ) → header_size ≤ length bytes → get_or bytes 2 0 ≡ byte_count (length bytes - header_size) → get_or bytes 1 0 ≡ command_code
    → body_answer bytes ≡ answer done (get_or bytes 3 0 / 2 ∷ [])
unfolding body_answer
body_done bytes h count command =
    simp (
      le-ltb (length bytes) header_size h,
      eq-eqb (get_or bytes 2 0) (byte_count (length bytes - header_size)) count,
      eq-eqb (get_or bytes 1 0) command_code command,
    )

-- what stands in bytes of which a source is answered
pub record Headed (bytes : List ℕ) (source : ℕ) : Type 0 where
  pub long : header_size ≤ length bytes
  pub counted : get_or bytes 2 0 ≡ byte_count (length bytes - header_size)
  pub command : get_or bytes 1 0 ≡ command_code
  pub halved : get_or bytes 3 0 / 2 ≡ source

-- and back: where a source is answered, no check refused
body_taken : (bytes : List ℕ) (source : ℕ) → body_answer bytes ≡ answer done (source ∷ []) → Headed bytes source
unfolding body_answer
body_taken bytes source e =
    go (ltb (length bytes) header_size) (eqb (get_or bytes 2 0) (byte_count (length bytes - header_size))) (eqb (get_or bytes 1 0) command_code) refl refl refl e
  where
    go : (short count command : Bool)
        → ltb (length bytes) header_size ≡ short → eqb (get_or bytes 2 0) (byte_count (length bytes - header_size)) ≡ count → eqb (get_or bytes 1 0) command_code ≡ command
        → cond short (answer invalid_input []) (cond (not count) (answer invalid_input []) (cond (not command) (answer invalid_input [])
        (answer done (get_or bytes 3 0 / 2 ∷ [])))) ≡ answer done (source ∷ []) → Headed bytes source
    go true count command p q r e = absurd (not_done (source ∷ []) e)
    go false false command p q r e = absurd (not_done (source ∷ []) e)
    go false true false p q r e = absurd (not_done (source ∷ []) e)
    go false true true p q r e =
        record {
          long = ltb-false (length bytes) header_size p;
          counted = eqb-true (get_or bytes 2 0) (byte_count (length bytes - header_size)) q;
          command = eqb-true (get_or bytes 1 0) command_code r;
          halved = same_value e;
        }

-- ---- the PEC before it

-- without PEC nothing comes before header and payload
pub decode_plain : (pec : Bool) (input : List ℕ) → pec ≡ false → decode_answer pec input ≡ body_answer input
unfolding decode_answer
decode_plain pec input e = simp e

-- with PEC, what refuses: an empty input, and then a last byte that is not the PEC
pub decode_empty : (pec : Bool) (input : List ℕ) → pec ≡ true → length input ≡ 0 → decode_answer pec input ≡ answer invalid_input []
unfolding decode_answer
decode_empty pec input e h = simp (e, eq-eqb (length input) 0 h)

pub decode_wrong : (pec : Bool) (input : List ℕ) → pec ≡ true → (length input ≡ 0 → ⊥) → (pec_of (but_last input) ≡ last_byte input → ⊥)
    → decode_answer pec input ≡ answer invalid_input []
unfolding decode_answer
decode_wrong pec input e h wrong = simp (e, ne_eqb (length input) 0 h, ne_eqb (pec_of (but_last input)) (last_byte input) wrong)

-- and where neither refuses
pub decode_right : (pec : Bool) (input : List ℕ) → pec ≡ true → (length input ≡ 0 → ⊥) → pec_of (but_last input) ≡ last_byte input
    → decode_answer pec input ≡ body_answer (but_last input)
unfolding decode_answer
decode_right pec input e h right = simp (e, ne_eqb (length input) 0 h, eq-eqb (pec_of (but_last input)) (last_byte input) right)

-- what holds of an input with PEC of which a source is answered
pub record Closed (input : List ℕ) (source : ℕ) : Type 0 where
  pub some : length input ≡ 0 → ⊥
  pub agrees : pec_of (but_last input) ≡ last_byte input
  pub rest : body_answer (but_last input) ≡ answer done (source ∷ [])

-- and back: where a source is answered, neither refused
pub closed_taken : (input : List ℕ) (source : ℕ) → decode_answer true input ≡ answer done (source ∷ []) → Closed input source
unfolding decode_answer
closed_taken input source e = go (eqb (length input) 0) (eqb (pec_of (but_last input)) (last_byte input)) refl refl e
  where
    go : (empty right : Bool) → eqb (length input) 0 ≡ empty → eqb (pec_of (but_last input)) (last_byte input) ≡ right
        → cond empty (answer invalid_input []) (cond (not right) (answer invalid_input []) (body_answer (but_last input))) ≡ answer done (source ∷ [])
        → Closed input source
    go true right p q e = absurd (not_done (source ∷ []) e)
    go false false p q e = absurd (not_done (source ∷ []) e)
    go false true p q e =
        record { some = eqb-false (length input) 0 p; agrees = eqb-true (pec_of (but_last input)) (last_byte input) q; rest = e }

-- either way, what is left without the PEC is answered alike
pub decode_taken : (pec : Bool) (input : List ℕ) (source : ℕ) → decode_answer pec input ≡ answer done (source ∷ [])
    → Headed (body pec input) source
unfolding decode_answer
decode_taken true input source e = body_taken (but_last input) source (closed_taken input source e).rest
decode_taken false input source e = body_taken input source e

-- each test of the definitions, in their order
pub decides : (pec : Bool) (input : List ℕ) → Decides (decode_answer pec input)
unfolding decode_answer body_answer
decides pec input =
    let bytes = body pec input in
    by_cond Decides (pec && eqb (length input) 0) _ _ (λ _. refuses refl) (λ _.
    by_cond Decides (pec && not (eqb (pec_of (but_last input)) (last_byte input))) _ _ (λ _. refuses refl) (λ _.
    by_cond Decides (ltb (length bytes) header_size) _ _ (λ _. refuses refl) (λ _.
    by_cond Decides (not (eqb (get_or bytes 2 0) (byte_count (length bytes - header_size)))) _ _ (λ _. refuses refl) (λ _.
    by_cond Decides (not (eqb (get_or bytes 1 0) command_code)) _ _ (λ _. refuses refl) (λ _.
    accepts (get_or bytes 3 0 / 2) refl)))))

-- ---- the payload

-- it stands behind the header, and where decode refuses there is none
pub part_taken : (pec : Bool) (input vs : List ℕ) → decode_answer pec input ≡ answer done vs
    → payload_part pec input ≡ part header_size (length (body pec input) - header_size)
unfolding payload_part
part_taken pec input vs e = rw e

pub part_refused : (pec : Bool) (input : List ℕ) (refused : DecodeError) → decode_answer pec input ≡ answer (decode_error_number refused) []
    → payload_part pec input ≡ no_part
unfolding payload_part
part_refused pec input InvalidInput e = rw e

-- how many bytes an input has without its PEC, of which there is one or none
body-length : (pec : Bool) (input : List ℕ) → length (body pec input) ≡ length input - from_bool pec
body-length true input = length-take-le (length input - 1) input (omega arith)
body-length false input = omega arith

-- an input of which a source is answered: the header is within these, and the payload behind it
module _ (pec : Bool) (input : List ℕ) (source n : ℕ) (e : decode_answer pec input ≡ answer done (source ∷ [])) (one : n ≡ from_bool pec) where
  pub payload_starts : header_size ≤ length input - n
  payload_starts = omega (arith, body-length pec input, (decode_taken pec input source e).long)

  pub payload_lies : payload_part pec input ≡ part header_size (length input - n - header_size)
  payload_lies = part_taken pec input (source ∷ []) e ∙ ap (λ (k : ℕ). part header_size (k - header_size)) (omega (arith, body-length pec input))
