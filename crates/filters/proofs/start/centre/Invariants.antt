use Rattle.std.proofs.Common.{◌+◌, ◌*ℤ◌, pos}
use Rattle.numbers.specs.inner.Lists.{Written}
use Rattle.lanes.specs.inner.Lanes.{copied}
use Rattle.filters.proofs.start.centre.Given as goal

abbrev pub invariant-loop-k : goal.invariant-loop-k
invariant-loop-k l = Written (pos 0) (λ i. i) (λ i. l.h *ℤ copied l.v (l.at + i)) l.k l.initial.y l.y
