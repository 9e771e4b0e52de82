-- What decode answers, and the payload as a part of its input (document 01, 'I2C'). The checks stand in document 01's order. Assumes nothing.
use Rattle.std.specs.Prelude.{ℕ, ◌-◌, ◌/◌, Bool, cond, not, ◌&&◌, List, [], ◌∷◌, Result, Ok, Err, eqb, ltb, length, get_or, take}
use Rattle.checks.specs.Numbers.{Answer, answer, done}
use Rattle.checks.specs.PacketErrorCode.{pec_of}
use Rattle.checks.specs.Part.{Part, no_part, part}
use Rattle.i2c.specs.declared.decoder.DecodeError.{DecodeError}
use Rattle.i2c.specs.declared.decoder.DecodeError.TheVariants.{InvalidInput}
use Rattle.i2c.specs.Frame.{byte_count, command_code, header_size}
use Rattle.i2c.specs.Numbers.{invalid_input}

-- the number of a refusal
abbrev pub decode_error_number : DecodeError → ℕ
decode_error_number InvalidInput = invalid_input

-- the answer in document 01's numbers; the value is the source address
abbrev pub decoded_answer : Result ℕ DecodeError → Answer
decoded_answer (Ok source) = answer done (source ∷ [])
decoded_answer (Err refused) = answer (decode_error_number refused) []

-- the input without its last byte, which is the PEC
abbrev pub but_last : List ℕ → List ℕ
but_last input = take (length input - 1) input

-- and that last byte
abbrev pub last_byte : List ℕ → ℕ
last_byte input = get_or input (length input - 1) 0

-- the input without its PEC, where it has one
abbrev pub body : Bool → List ℕ → List ℕ
body pec input = cond pec (but_last input) input

-- of header and payload: fewer than 4 bytes; third byte not the byte count; second byte not the command code. The first byte and the low bit of
-- the fourth are not tested
unfoldable pub body_answer : List ℕ → Answer
body_answer bytes =
    cond (ltb (length bytes) header_size) (answer invalid_input [])
    (cond (not (eqb (get_or bytes 2 0) (byte_count (length bytes - header_size)))) (answer invalid_input [])
    (cond (not (eqb (get_or bytes 1 0) command_code)) (answer invalid_input [])
    (answer done (get_or bytes 3 0 / 2 ∷ []))))

-- with PEC, first: empty input; last byte not the PEC of those before it
unfoldable pub decode_answer : Bool → List ℕ → Answer
decode_answer pec input =
    cond (pec && eqb (length input) 0) (answer invalid_input [])
    (cond (pec && not (eqb (pec_of (but_last input)) (last_byte input))) (answer invalid_input [])
    (body_answer (body pec input)))

-- the payload: what stands behind the header, where decode refuses nothing
unfoldable pub payload_part : Bool → List ℕ → Part
payload_part pec input = cond (eqb (decode_answer pec input).number done) (part header_size (length (body pec input) - header_size)) no_part
