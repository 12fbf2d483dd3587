-- `read_line`: the bytes before the one at hand have come, with no newline.
use Rattle.level_input.proofs.Coming.{Coming}
use Rattle.level_input.proofs.read_line.Given as goal

abbrev pub invariant-loop-n : goal.invariant-loop-n
invariant-loop-n g l = Coming l.line (g.R.Read.remaining l.fn.from) (g.R.Read.remaining l.from) l.n
