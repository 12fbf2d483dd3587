use Rattle.std.proofs.Common.{◌+◌, pos}
use Rattle.numbers.specs.inner.Lists.{Written}
use Rattle.filters.specs.inner.Biases.{rounded}
use Rattle.band.proofs.round.Given as goal

abbrev pub invariant-loop-l : goal.invariant-loop-l
invariant-loop-l g l = Written (pos 0) (λ k. l.i + k) (rounded g.row.Q l.s) l.l l.initial.y l.y
