-- What encode answers, and what it leaves in the output (document 01, 'I2C' and 'Numbers given back', with its order). Assumes nothing.
use Rattle.std.specs.Prelude.{ℕ, ◌+◌, Bool, cond, not, ◌&&◌, List, [], ◌∷◌, Result, Ok, Err, leb, ltb}
use Rattle.checks.specs.Numbers.{Answer, answer, done}
use Rattle.checks.specs.Output.{at_start}
use Rattle.i2c.specs.declared.encoder.EncodeError.{EncodeError}
use Rattle.i2c.specs.declared.encoder.EncodeError.TheVariants.{BadAddress, BadArgument}
use Rattle.i2c.specs.Frame.{address_most, frame, header_size, payload_most}
use Rattle.i2c.specs.Numbers.{bad_address, bad_argument}

-- the number of a refusal
abbrev pub encode_error_number : EncodeError → ℕ
encode_error_number BadAddress = bad_address
encode_error_number BadArgument = bad_argument

-- the answer in document 01's numbers; the value is the length written
abbrev pub encoded_answer : Result ℕ EncodeError → Answer
encoded_answer (Ok n) = answer done (n ∷ [])
encoded_answer (Err refused) = answer (encode_error_number refused) []

-- two addresses of 7 bits
abbrev pub addresses : ℕ → ℕ → Bool
addresses own dest = leb own address_most && leb dest address_most

-- the length of the frame of a payload of this size: the header before it, and the PEC behind it
abbrev pub frame_size : Bool → ℕ → ℕ
frame_size pec size = cond pec (header_size + size + 1) (header_size + size)

-- of a payload of this size, into an output of `room` bytes: an address over 127; a payload over 254; an output shorter than the frame
unfoldable pub encode_answer : ℕ → ℕ → Bool → ℕ → ℕ → Answer
encode_answer own dest pec size room =
    cond (not (addresses own dest)) (answer bad_address [])
    (cond (ltb payload_most size) (answer bad_argument [])
    (cond (ltb room (frame_size pec size)) (answer bad_argument [])
    (answer done (frame_size pec size ∷ []))))

-- the output after it
unfoldable pub encode_output : Result ℕ EncodeError → ℕ → ℕ → Bool → List ℕ → List ℕ → List ℕ
encode_output (Ok n) own dest pec payload out = at_start (frame own dest pec payload) out
encode_output (Err refused) own dest pec payload out = out
