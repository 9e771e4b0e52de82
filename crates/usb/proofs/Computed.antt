-- What these inputs and headers make is computed from the definitions. It rests on no law, so that an error in a definition shows here and not in the
-- words of a proof that no longer fits. Assumes nothing.
use mathlib.Core.Path.{refl}
use Rattle.usb.specs.Computed.{DecodedTold, HeadedTold, HeadersMade, NearMisses}
use Rattle.usb.specs.Decode.{decode_answer}
use Rattle.usb.specs.Header.{header_answer}

pub near_misses : NearMisses
unfolding decode_answer
near_misses = (refl, refl, refl, refl, refl)

pub headers_made : HeadersMade
unfolding header_answer
headers_made = (refl, refl, refl, refl)

pub headed_told : HeadedTold
headed_told = (refl, refl)

pub decoded_told : DecodedTold
decoded_told = (λ n. refl, refl)
