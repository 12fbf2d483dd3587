use Rattle.std.proofs.Common.{◌≡◌, ◌+◌, ◌+ℤ◌, ◌*ℤ◌, pos, length}
use Rattle.numbers.specs.Sums.{at0}
use Rattle.numbers.specs.inner.Lists.{Written}
use Rattle.lanes.specs.inner.Lanes.{copied}
use Rattle.lanes.proofs.one.Given as goal

abbrev pub invariant-loop-l : goal.invariant-loop-l
invariant-loop-l g l =
    (length l.s ≡ g.row.L) × Written (pos 0) (λ k. k) (λ k. at0 l.initial.s k +ℤ l.h *ℤ (copied l.v (l.down + k) +ℤ copied l.v (l.up + k))) l.l l.initial.s l.s
