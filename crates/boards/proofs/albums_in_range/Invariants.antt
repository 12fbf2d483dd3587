-- So far the albums 0, …, a - 1 are in range.
use Rattle.std.proofs.Common.{◌≡◌, true}
use Rattle.numbers.specs.Tests.{each_below}
use Rattle.boards.specs.Boards.{board}
use Rattle.boards.proofs.Ranges.{each}
use Rattle.boards.proofs.albums_in_range.Given as goal

abbrev pub invariant-loop-a : goal.invariant-loop-a
invariant-loop-a l = each_below (each (board l.frames l.dues 0)) l.a ≡ true
