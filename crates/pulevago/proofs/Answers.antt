-- What the number of an answer tells: what a writer left in its output. By the cases of what it answers. Assumes nothing.
use Prim.Native.Nat.{ℕ}
use mathlib.Core.Path.{◌≡◌, refl}
use mathlib.Core.Bool.{Bool}
use mathlib.Core.List.{List}
use Rattle.checks.specs.Output.{at_start}
use Rattle.framing.specs.declared.error.FrameError.{FrameError}
use Rattle.framing.specs.declared.error.FrameError.TheVariants.{BadLength, ShortOutput}
use Rattle.framing.specs.Writer.{written_answer}
use Rattle.framing.specs.Frame.{frame as serialFrame}
use Rattle.framing.specs.Writer.{output_of}
use Rattle.std.specs.Prelude.{Result, Ok, Err, ⊤}
use Rattle.i2c.specs.declared.encoder.EncodeError.{EncodeError}
use Rattle.i2c.specs.declared.encoder.EncodeError.TheVariants.{BadAddress, BadArgument}
use Rattle.i2c.specs.Encode.{encode_output, encoded_answer}
use Rattle.i2c.specs.Frame.{frame}
use Rattle.usb.specs.declared.head.HeaderError.{HeaderError}
use Rattle.usb.specs.declared.head.HeaderError.TheVariants.{BadPacket}
use Rattle.usb.specs.Header.{headed_answer, header_of, header_output}
use Rattle.pulevago.specs.Lent.{given}

pub frame_left : (r : Result ℕ FrameError) (packet out : List ℕ) → output_of r packet out ≡ given (written_answer r).number out (at_start (serialFrame packet) out)
unfolding output_of
frame_left (Ok n) packet out = refl
frame_left (Err BadLength) packet out = refl
frame_left (Err ShortOutput) packet out = refl

pub encoded_left : (r : Result ℕ EncodeError) (own dest : ℕ) (pec : Bool) (payload out : List ℕ)
    → encode_output r own dest pec payload out ≡ given (encoded_answer r).number out (at_start (frame own dest pec payload) out)
unfolding encode_output
encoded_left (Ok n) own dest pec payload out = refl
encoded_left (Err BadAddress) own dest pec payload out = refl
encoded_left (Err BadArgument) own dest pec payload out = refl

pub header_left : (r : Result ⊤ HeaderError) (size : ℕ) (out : List ℕ) → header_output r size out ≡ given (headed_answer r).number out (header_of size)
unfolding header_output
header_left (Ok _) size out = refl
header_left (Err BadPacket) size out = refl
