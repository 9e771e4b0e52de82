-- An answer in document 01's numbers tells the result that it is the answer of, since the result can be had back from it. Assumes nothing.
use Rattle.std.specs.Prelude.{ℕ, Result, Ok, Err}
use mathlib.Core.Path.{◌≡◌, refl}
use mathlib.Core.Bool.{cond}
use lib.Dec.{eqb}
use Rattle.checks.specs.Numbers.{Answer, done, value_of}
use Rattle.checks.proofs.Numbers.{tells}
use Rattle.i2c.specs.declared.decoder.DecodeError.{DecodeError}
use Rattle.i2c.specs.declared.decoder.DecodeError.TheVariants.{InvalidInput}
use Rattle.i2c.specs.declared.encoder.EncodeError.{EncodeError}
use Rattle.i2c.specs.declared.encoder.EncodeError.TheVariants.{BadAddress, BadArgument}
use Rattle.i2c.specs.Decode.{decoded_answer}
use Rattle.i2c.specs.Encode.{encoded_answer}
use Rattle.i2c.specs.Numbers.{bad_address}

-- ---- encode

-- the result, back from its answer
abbrev encoded_back : Answer → Result ℕ EncodeError
encoded_back a = cond (eqb a.number done) (Ok (value_of a)) (Err (cond (eqb a.number bad_address) BadAddress BadArgument))

encoded_there_and_back : (x : Result ℕ EncodeError) → encoded_back (encoded_answer x) ≡ x
encoded_there_and_back (Ok n) = refl
encoded_there_and_back (Err BadAddress) = refl
encoded_there_and_back (Err BadArgument) = refl

pub same_encoded : (x y : Result ℕ EncodeError) → encoded_answer x ≡ encoded_answer y → x ≡ y
same_encoded = tells encoded_answer encoded_back encoded_there_and_back

-- ---- decode

-- the result, back from its answer
abbrev decoded_back : Answer → Result ℕ DecodeError
decoded_back a = cond (eqb a.number done) (Ok (value_of a)) (Err InvalidInput)

decoded_there_and_back : (x : Result ℕ DecodeError) → decoded_back (decoded_answer x) ≡ x
decoded_there_and_back (Ok source) = refl
decoded_there_and_back (Err InvalidInput) = refl

pub same_decoded : (x y : Result ℕ DecodeError) → decoded_answer x ≡ decoded_answer y → x ≡ y
same_decoded = tells decoded_answer decoded_back decoded_there_and_back
