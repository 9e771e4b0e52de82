-- What decode answers, and packet and remainder as parts of its input (document 01, 'USB'). The checks stand in document 01's order. Assumes nothing.
use Rattle.std.specs.Prelude.{ℕ, ◌+◌, ◌-◌, cond, not, ◌&&◌, List, [], ◌∷◌, Result, Ok, Err, eqb, ltb, length, get_or}
use Rattle.checks.specs.Numbers.{Answer, answer, done}
use Rattle.checks.specs.Part.{Part, no_part, part}
use Rattle.usb.specs.declared.decoder.DecodeError.{DecodeError}
use Rattle.usb.specs.declared.decoder.DecodeError.TheVariants.{RxFailure}
use Rattle.usb.specs.Header.{first_byte, header_size, second_byte}
use Rattle.usb.specs.Numbers.{rx_failure}

-- the number of a refusal
abbrev pub decode_error_number : DecodeError → ℕ
decode_error_number RxFailure = rx_failure

-- the answer in document 01's numbers; the value is the packet's length
abbrev pub decoded_answer : Result ℕ DecodeError → Answer
decoded_answer (Ok n) = answer done (n ∷ [])
decoded_answer (Err refused) = answer (decode_error_number refused) []

-- fewer than 4 bytes; first two bytes not 1a b4; length byte under 4; too few bytes left. The third byte is not tested
unfoldable pub decode_answer : List ℕ → Answer
decode_answer input =
    cond (ltb (length input) header_size) (answer rx_failure [])
    (cond (not (eqb (get_or input 0 0) first_byte && eqb (get_or input 1 0) second_byte)) (answer rx_failure [])
    (cond (ltb (get_or input 3 0) header_size) (answer rx_failure [])
    (cond (ltb (length input) (get_or input 3 0)) (answer rx_failure [])
    (answer done ((get_or input 3 0 - header_size) ∷ [])))))

-- the packet behind the header at a place, by the values of an answer: its length, or nothing
abbrev pub packet_at : ℕ → List ℕ → Part
packet_at place [] = no_part
packet_at place (n ∷ ns) = part (place + header_size) n

-- what is left of `size` bytes behind header and packet
abbrev pub rest_at : ℕ → List ℕ → Part
rest_at size [] = no_part
rest_at size (n ∷ ns) = part (header_size + n) (size - (header_size + n))

-- packet and remainder of an input
abbrev pub packet_part : List ℕ → Part
packet_part input = packet_at 0 (decode_answer input).values

abbrev pub remainder_part : List ℕ → Part
remainder_part input = rest_at (length input) (decode_answer input).values
