use Rattle.std.proofs.Common.{◌+◌, ◌-◌}
use Rattle.lanes.specs.inner.Lanes.{copied, fourths, Added}
use Rattle.lanes.proofs.Arms.fourths.Given as goal

abbrev pub invariant-loop-k : goal.invariant-loop-k
invariant-loop-k g l =
    Added g.row.L (λ i. fourths l.self.h.now (copied l.self.v.now) l.from (l.self.end + i - 1) (l.self.up + i) l.k) l.initial.s l.s
