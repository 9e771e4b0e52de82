-- An answer in document 01's numbers tells the result that it is the answer of, since the result can be had back from it. Assumes nothing.
use Rattle.std.specs.Prelude.{ℕ, Option, Some, None, Result, Ok, Err, ⊤}
use mathlib.Core.Path.{◌≡◌, refl}
use mathlib.Core.Bool.{cond}
use mathlib.Core.List.{List, [], ◌∷◌}
use lib.Dec.{eqb}
use Rattle.checks.specs.Numbers.{Answer, done}
use Rattle.checks.proofs.Numbers.{tells}
use Rattle.usb.specs.Numbers.{bad_packet}
use Rattle.usb.specs.declared.decoder.DecodeError.{DecodeError}
use Rattle.usb.specs.declared.decoder.DecodeError.TheVariants.{RxFailure}
use Rattle.transfer.specs.declared.builder.AppendError.{AppendError}
use Rattle.transfer.specs.declared.builder.AppendError.TheVariants.{BadPacket, NoRoom}
use Rattle.transfer.specs.Builder.{appended_answer}
use Rattle.transfer.specs.Walk.{walked_answer}

-- ---- the builder

-- the result, back from its answer
abbrev appended_back : Answer → Result ⊤ AppendError
appended_back a = cond (eqb a.number done) (Ok tt) (Err (cond (eqb a.number bad_packet) BadPacket NoRoom))

appended_there_and_back : (x : Result ⊤ AppendError) → appended_back (appended_answer x) ≡ x
appended_there_and_back (Ok _) = refl
appended_there_and_back (Err BadPacket) = refl
appended_there_and_back (Err NoRoom) = refl

pub same_appended : (x y : Result ⊤ AppendError) → appended_answer x ≡ appended_answer y → x ≡ y
same_appended = tells appended_answer appended_back appended_there_and_back

-- ---- the walker

-- a value is a packet's length, and without one it is the end
abbrev found_or_end : List ℕ → Option ℕ
found_or_end [] = None
found_or_end (n ∷ ns) = Some n

-- the result, back from its answer
abbrev walked_back : Answer → Result (Option ℕ) DecodeError
walked_back a = cond (eqb a.number done) (Ok (found_or_end a.values)) (Err RxFailure)

walked_there_and_back : (x : Result (Option ℕ) DecodeError) → walked_back (walked_answer x) ≡ x
walked_there_and_back (Ok (Some n)) = refl
walked_there_and_back (Ok None) = refl
walked_there_and_back (Err RxFailure) = refl

pub same_walked : (x y : Result (Option ℕ) DecodeError) → walked_answer x ≡ walked_answer y → x ≡ y
same_walked = tells walked_answer walked_back walked_there_and_back
