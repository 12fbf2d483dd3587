-- `turns`: each turn counts a frame, and what has come so far is told.
use Rattle.std.proofs.Common.{◌≡◌, ◌*◌, ◌≤◌}
use Rattle.reference.specs.Frames.{frame_length}
use Rattle.level_turns.specs.inner.Turns.{moment}
use Rattle.level_turns.proofs.Whole.{Come}
use Rattle.level_turns.proofs.turns.Given as goal

abbrev pub invariant-loop : goal.invariant-loop
invariant-loop g l =
    (l.window.size ≡ frame_length l.fn.report.of.conv.channels) × (l.window.came.frames ≡ l.counter) × (l.report.of ≡ l.fn.report.of)
    × (l.report.clipped ≤ 28224 * l.window.came.frames)
    × Come l.fn.report.of.conv (moment l.window.came.frames l.report.clipped l.report.states l.window.came.left l.window.three.now)
    (g.R.Read.remaining l.fn.from) (g.R.Read.remaining l.from) (g.W.Write.contents l.fn.to) (g.W.Write.contents l.to)
