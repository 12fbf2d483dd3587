use Rattle.std.proofs.Common.{◌*◌, pos}
use Rattle.numbers.specs.inner.Lists.{Held}
use Rattle.numbers.specs.inner.Parts.{interleaved}
use Rattle.stages.proofs.interleave.Given as goal

abbrev pub invariant-loop-k : goal.invariant-loop-k
invariant-loop-k l = Held (pos 0) (interleaved l.even l.odd) 0 (2 * l.k) l.out
