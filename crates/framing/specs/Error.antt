-- The number of each of the frame writer's refusals (document 01, 'Numbers given back'). Assumes nothing.
use Rattle.std.specs.Prelude.{ℕ, ◌≡◌}
use Rattle.checks.specs.Numbers.{short_output}
use Rattle.framing.specs.declared.error.FrameError.{FrameError}
use Rattle.framing.specs.declared.error.FrameError.TheVariants.{BadLength, ShortOutput}
use Rattle.framing.specs.Numbers.{bad_length}

-- the number
abbrev pub frame_error_number : FrameError → ℕ
frame_error_number BadLength = bad_length
frame_error_number ShortOutput = short_output

-- what the conversion to a number gives
abbrev pub IsErrorNumber : FrameError → ℕ → Type 0
IsErrorNumber e n = n ≡ frame_error_number e
