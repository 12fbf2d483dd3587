use Rattle.std.proofs.Common.{◌+◌, ◌-◌}
use Rattle.lanes.specs.inner.Lanes.{copied, arms, Added}
use Rattle.lanes.proofs.Arms.singly.Given as goal

abbrev pub invariant-loop-j : goal.invariant-loop-j
invariant-loop-j g l =
    Added g.row.L (λ i. arms l.self.h.now (copied l.self.v.now) l.from (l.self.end + i - 1) (l.self.up + i) (l.j - l.from)) l.initial.s l.s
