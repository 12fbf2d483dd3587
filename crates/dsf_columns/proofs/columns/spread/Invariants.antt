use Rattle.std.proofs.Common.{get_or, ◌+◌, ◌*◌}
use Rattle.numbers.specs.inner.Lists.{Written}
use Rattle.dsf_columns.proofs.columns.spread.Given as goal

abbrev pub invariant-loop-k : goal.invariant-loop-k
invariant-loop-k l = Written 0 (λ i. l.at + i * l.stride) (λ i. get_or l.table (get_or l.src i 0) 0) l.k l.initial.out l.out
