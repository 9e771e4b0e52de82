-- The frame writer's answer tells its result. Assumes nothing.
use mathlib.Core.Path.{◌≡◌, refl}
use mathlib.Core.Bool.{cond}
use lib.Dec.{eqb}
use Rattle.checks.specs.Numbers.{Answer, done, value_of}
use Rattle.checks.proofs.Numbers.{tells}
use Rattle.std.proofs.Common.{Err, Ok, Result, ℕ}
use Rattle.framing.specs.declared.error.FrameError.{FrameError}
use Rattle.framing.specs.declared.error.FrameError.TheVariants.{BadLength, ShortOutput}
use Rattle.framing.specs.Numbers.{bad_length}
use Rattle.framing.specs.Writer.{written_answer}

-- the result, back from its answer
abbrev back : Answer → Result ℕ FrameError
back a = cond (eqb a.number done) (Ok (value_of a)) (cond (eqb a.number bad_length) (Err BadLength) (Err ShortOutput))

there_and_back : (x : Result ℕ FrameError) → back (written_answer x) ≡ x
there_and_back (Ok n) = refl
there_and_back (Err BadLength) = refl
there_and_back (Err ShortOutput) = refl

pub same_written : (x y : Result ℕ FrameError) → written_answer x ≡ written_answer y → x ≡ y
same_written = tells written_answer back there_and_back
