use Rattle.std.proofs.Common.{◌+◌, ◌-◌, ◌*◌, ◌+ℤ◌, pos, length}
use Rattle.numbers.specs.Sums.{at0}
use Rattle.numbers.specs.inner.Lists.{Written}
use Rattle.lanes.specs.inner.Lanes.{copied, arms}
use Rattle.lanes.proofs.Arms.add.Given as goal

abbrev pub invariant-loop-b : goal.invariant-loop-b
invariant-loop-b l =
    Written (pos 0) (λ k. k) (λ k. at0 l.initial.y k +ℤ arms l.self.h.now (copied l.self.v.now) l.from (l.self.end + k - 1) (l.self.up + k) (length l.self.h.now - l.from))
    (14 * l.b) l.initial.y l.y

abbrev pub invariant-loop-k : goal.invariant-loop-k
invariant-loop-k l =
    Written (pos 0) (λ k. k) (λ k. at0 l.fn.y k +ℤ arms l.self.h.now (copied l.self.v.now) l.from (l.self.end + k - 1) (l.self.up + k) (length l.self.h.now - l.from)) l.k l.fn.y l.y
