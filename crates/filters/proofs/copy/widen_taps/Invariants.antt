use Rattle.std.proofs.Common.{pos}
use Rattle.numbers.specs.inner.Lists.{Written}
use Rattle.numbers.specs.Sums.{at0}
use Rattle.filters.proofs.copy.widen_taps.Given as goal

abbrev pub invariant-loop-k : goal.invariant-loop-k
invariant-loop-k l = Written (pos 0) (λ i. i) (at0 l.h) l.k l.initial.out l.out
