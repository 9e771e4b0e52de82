-- `fill` fills a room from its start: what has come so far lies within the room. Assumes nothing.
use Rattle.std.proofs.Common.{◌≤◌, length}
use Rattle.vectors.proofs.load.fill.Given as goal

abbrev pub invariant-loop : goal.invariant-loop
invariant-loop g l = l.len ≤ length l.room
