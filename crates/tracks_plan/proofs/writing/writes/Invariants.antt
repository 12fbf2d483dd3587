-- The first k files' numbers are written, one file after the other.
use Rattle.std.proofs.Common.{◌*◌}
use Rattle.numbers.specs.Lists.{tabulate}
use Rattle.text.specs.Text.{joined, Printed}
use Rattle.tracks_plan.specs.Writes.{numbers_at}
use Rattle.tracks_plan.proofs.writing.writes.Given as goal

abbrev pub invariant-loop-k : goal.invariant-loop-k
invariant-loop-k l = Printed (joined (tabulate (numbers_at l.marks l.place l.bytes) 0 l.k)) l.initial.out 0 l.out (3 * l.k)
