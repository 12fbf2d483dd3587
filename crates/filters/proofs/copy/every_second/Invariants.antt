use Rattle.std.proofs.Common.{◌+◌, ◌*◌, pos}
use Rattle.numbers.specs.inner.Lists.{Written}
use Rattle.numbers.specs.Sums.{at0}
use Rattle.filters.proofs.copy.every_second.Given as goal

abbrev pub invariant-loop-k : goal.invariant-loop-k
invariant-loop-k l = Written (pos 0) (λ i. i) (λ i. at0 l.h (2 * i + l.from)) l.k l.initial.out l.out
