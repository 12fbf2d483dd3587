use Rattle.filters.specs.inner.Biases.{Copied}
use Rattle.filters.proofs.start.bias_all.Given as goal

abbrev pub invariant-loop-k : goal.invariant-loop-k
invariant-loop-k l = Copied l.k l.x l.v
