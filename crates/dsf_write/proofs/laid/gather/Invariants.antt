use Rattle.std.proofs.Common.{◌+◌, ◌*◌, get_or}
use Rattle.numbers.specs.inner.Lists.{Written}
use Rattle.dsf_write.proofs.laid.gather.Given as goal

abbrev pub invariant-loop-k : goal.invariant-loop-k
invariant-loop-k l = Written 0 (λ i. i) (λ i. get_or l.table (get_or l.frames (l.from + i * l.stride) 0) 0) l.k l.initial.out l.out
