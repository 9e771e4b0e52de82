-- What these frames and inputs give is computed from the definitions. It rests on no law, so that an error in a definition shows here and not in
-- the words of a proof that no longer fits. Assumes nothing.
use mathlib.Core.Path.{refl}
use Rattle.checks.specs.Register.{bit_step, bit_steps, byte_step, check_from}
use Rattle.i2c.specs.Computed.{Answered, DecodedTold, EncodedTold, FramesDecoded, FramesWritten, NearMisses, OutputWritten}
use Rattle.i2c.specs.Decode.{body_answer, decode_answer, payload_part}
use Rattle.i2c.specs.Encode.{encode_answer, encode_output}

pub frames_written : FramesWritten
unfolding check_from byte_step bit_steps bit_step
frames_written = (refl, refl)

pub answered : Answered
unfolding encode_answer
answered = (refl, refl, refl, refl, refl, refl, refl, refl)

pub output_written : OutputWritten
unfolding encode_output check_from byte_step bit_steps bit_step
output_written = (refl, refl, refl, refl)

pub frames_decoded : FramesDecoded
unfolding decode_answer body_answer payload_part check_from byte_step bit_steps bit_step
frames_decoded = ((refl, refl), (refl, refl), (refl, refl))

pub near_misses : NearMisses
unfolding decode_answer body_answer payload_part check_from byte_step bit_steps bit_step
near_misses = (refl, refl, refl, refl, refl, refl)

pub encoded_told : EncodedTold
encoded_told = (λ n. refl, refl, refl)

pub decoded_told : DecodedTold
decoded_told = (λ source. refl, refl)
