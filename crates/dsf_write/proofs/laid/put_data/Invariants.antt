use Rattle.std.proofs.Common.{◌*◌}
use Rattle.numbers.specs.inner.Lists.{Written}
use Rattle.dsf_write.specs.Written.{written_byte}
use Rattle.dsf_write.proofs.laid.put_data.Given as goal

abbrev pub invariant-loop-k : goal.invariant-loop-k
invariant-loop-k l = Written 0 (λ i. i) (written_byte l.channels l.frames) (l.k * 4096) l.initial.out l.out
