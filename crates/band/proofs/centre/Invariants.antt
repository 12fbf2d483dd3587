use Rattle.std.proofs.Common.{◌≡◌, ◌+◌, pos, ◌*ℤ◌, length}
use Rattle.numbers.specs.inner.Lists.{Written}
use Rattle.filters.specs.inner.Biases.{biased}
use Rattle.band.proofs.centre.Given as goal

abbrev pub invariant-loop-l : goal.invariant-loop-l
invariant-loop-l g l = (length l.s ≡ g.row.L) × Written (pos 0) (λ k. k) (λ k. pos 8388608 *ℤ biased l.y (l.i + k)) l.l l.initial.s l.s
