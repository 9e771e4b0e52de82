-- An answer in document 01's numbers tells the result that it is the answer of, since the result can be had back from it. Assumes nothing.
use mathlib.Core.Path.{◌≡◌, refl}
use mathlib.Core.Bool.{cond}
use lib.Dec.{eqb}
use Rattle.std.specs.Prelude.{ℕ, Result, Ok, Err, ⊤}
use Rattle.checks.specs.Numbers.{Answer, done, value_of}
use Rattle.checks.proofs.Numbers.{tells}
use Rattle.usb.specs.declared.decoder.DecodeError.{DecodeError}
use Rattle.usb.specs.declared.decoder.DecodeError.TheVariants.{RxFailure}
use Rattle.usb.specs.declared.head.HeaderError.{HeaderError}
use Rattle.usb.specs.declared.head.HeaderError.TheVariants.{BadPacket}
use Rattle.usb.specs.Decode.{decoded_answer}
use Rattle.usb.specs.Header.{headed_answer}

-- ---- header

-- the result, back from its answer
abbrev headed_back : Answer → Result ⊤ HeaderError
headed_back a = cond (eqb a.number done) (Ok tt) (Err BadPacket)

headed_there_and_back : (x : Result ⊤ HeaderError) → headed_back (headed_answer x) ≡ x
headed_there_and_back (Ok _) = refl
headed_there_and_back (Err BadPacket) = refl

pub same_headed : (x y : Result ⊤ HeaderError) → headed_answer x ≡ headed_answer y → x ≡ y
same_headed = tells headed_answer headed_back headed_there_and_back

-- ---- decode

-- the result, back from its answer
abbrev decoded_back : Answer → Result ℕ DecodeError
decoded_back a = cond (eqb a.number done) (Ok (value_of a)) (Err RxFailure)

decoded_there_and_back : (x : Result ℕ DecodeError) → decoded_back (decoded_answer x) ≡ x
decoded_there_and_back (Ok n) = refl
decoded_there_and_back (Err RxFailure) = refl

pub same_decoded : (x y : Result ℕ DecodeError) → decoded_answer x ≡ decoded_answer y → x ≡ y
same_decoded = tells decoded_answer decoded_back decoded_there_and_back
