use Rattle.filters.specs.inner.Filters.{seconds}
use Rattle.filters.specs.inner.Biases.{Copied}
use Rattle.filters.proofs.start.bias_second.Given as goal

abbrev pub invariant-loop-k : goal.invariant-loop-k
invariant-loop-k l = Copied l.k (seconds l.from l.x) l.v
