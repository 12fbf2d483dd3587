-- So far the turns of the albums 0, …, b - 1 that go no later are counted.
use Rattle.std.proofs.Common.{◌*◌, ◌≤◌, ◌≡◌}
use Rattle.numbers.specs.Lists.{total}
use Rattle.boards.specs.Boards.{board}
use Rattle.finishes.proofs.DueFirst.{ahead}
use Rattle.boards.proofs.Ranges.{Ranges}
use Rattle.finishes.proofs.finish.Given as goal

abbrev pub invariant-loop-b : goal.invariant-loop-b
invariant-loop-b l =
    let s = board l.frames l.dues l.turn in
    (l.sum ≡ total (ahead s l.a) 0 l.b) × (l.sum ≤ 540000 * l.b) × Ranges s
