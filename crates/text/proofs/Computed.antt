-- The texts are computed from the definitions. It rests on no law, so that an error in a definition shows here. Assumes nothing.
use mathlib.Core.Path.{refl}
use Rattle.text.specs.Computed.{DecimalIn, DecimalRefused, HexIn, HexPut, HexRefused, PutThere, Written}
use Rattle.text.specs.Decimal.{digits_of}
use Rattle.text.specs.Hex.{hex_all}
use Rattle.text.specs.Put.{put_end, put_text}
use Rattle.text.specs.Read.{all_digits, decimal_read, digit_value, hex_bytes, hex_output, hex_read, starts_number, value_from}

pub written : Written
unfolding hex_all digits_of
written = (refl, refl, refl, refl, refl)

pub put_there : PutThere
unfolding put_end put_text
put_there = (refl, refl, refl, refl, refl, refl, refl, refl)

pub hex_put : HexPut
unfolding put_end put_text hex_all
hex_put = (refl, refl, refl, refl, refl, refl)

pub hex_in : HexIn
unfolding hex_read hex_output all_digits digit_value hex_bytes
hex_in = (refl, refl, refl)

pub hex_refused : HexRefused
unfolding hex_read hex_output all_digits digit_value hex_bytes
hex_refused = (refl, refl, refl, refl, refl, refl, refl, refl, refl)

pub decimal_in : DecimalIn
unfolding decimal_read starts_number all_digits digit_value value_from
decimal_in = (refl, refl, refl)

pub decimal_refused : DecimalRefused
unfolding decimal_read starts_number all_digits digit_value value_from
decimal_refused = (refl, refl, refl, refl, refl, refl)
