use Rattle.std.proofs.Common.{◌+◌, ◌*◌}
use Rattle.reference.specs.Frames.{idle}
use Rattle.numbers.specs.inner.Lists.{Written}
use Rattle.dsf_columns.proofs.columns.idle_at.Given as goal

abbrev pub invariant-loop-k : goal.invariant-loop-k
invariant-loop-k l = Written 0 (λ i. l.at + i * l.stride) (λ i. idle) l.k l.initial.out l.out
