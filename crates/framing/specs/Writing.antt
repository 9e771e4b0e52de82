-- What the frame writer's steps do, for the contracts of this crate's private functions. Assumes nothing.
use Rattle.std.specs.Prelude.{ℕ, ◌+◌, ◌≡◌, List, length}
use Rattle.checks.specs.FrameCheck.{frame_check_from}
use Rattle.checks.specs.Output.{put_at}
use Rattle.framing.specs.declared.frame.Writer.{Writer}

-- a step writes some bytes at the writer's place, which is behind them then, and the check goes on over others; the output is the same, of the same length
pub record Wrote (before after : Writer) (written covered : List ℕ) : Type 0 where
  pub same_output : after.out.ghost_name ≡ before.out.ghost_name
  pub same_length : length after.out.now ≡ length before.out.now
  pub output : after.out.now ≡ put_at before.place written before.out.now
  pub place : after.place ≡ before.place + length written
  pub register : after.register ≡ frame_check_from before.register covered
