use Rattle.std.proofs.Common.{◌≡◌, ◌+◌, ◌+ℤ◌, ◌*ℤ◌, pos, length}
use Rattle.numbers.specs.Sums.{at0}
use Rattle.numbers.specs.inner.Lists.{Written}
use Rattle.lanes.specs.inner.Lanes.{copied}
use Rattle.lanes.proofs.two.Given as goal

abbrev pub invariant-loop-l : goal.invariant-loop-l
invariant-loop-l g l =
    (length l.s ≡ g.row.L)
    × Written (pos 0) (λ k. k) (λ k. at0 l.initial.s k +ℤ (l.a *ℤ (copied l.v (l.down + 2 + k) +ℤ copied l.v (l.up + k)) +ℤ l.b *ℤ (copied l.v (l.down + k) +ℤ copied l.v (l.up + 2 + k))))
    l.l l.initial.s l.s
