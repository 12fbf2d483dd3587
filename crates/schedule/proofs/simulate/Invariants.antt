-- So far the albums 0, …, a - 1 have their finishing turns and latenesses.
use Rattle.std.proofs.Common.{pos, length}
use Rattle.numbers.specs.inner.Lists.{Held}
use Rattle.boards.specs.Boards.{board}
use Rattle.finishes.specs.Turns.{finish_in, lateness_in, simulated}
use Rattle.boards.proofs.Ranges.{Fits}
use Rattle.schedule.proofs.simulate.Given as goal

abbrev pub invariant-loop-a : goal.invariant-loop-a
invariant-loop-a l =
    let s = board l.frames l.dues l.turn in
    Fits l.frames l.dues l.turn (length l.initial.finishes) (length l.initial.late)
    × Held 0 (finish_in s (simulated s)) 0 l.a l.finishes × Held (pos 0) (lateness_in s (simulated s)) 0 l.a l.late
