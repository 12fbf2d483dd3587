use Rattle.std.proofs.Common.{pos}
use Rattle.numbers.specs.inner.Lists.{Written}
use Rattle.filters.specs.inner.Biases.{rounded}
use Rattle.filters.proofs.round.all.Given as goal

abbrev pub invariant-loop-place : goal.invariant-loop-place
invariant-loop-place g l = Written (pos 0) (λ i. i) (rounded g.row.Q l.initial.y) l.place-index l.initial.y l.y
