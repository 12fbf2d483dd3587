use Rattle.std.proofs.Common.{◌-◌, ◌*◌, ◌+◌, ◌≤◌, get_or, pos}
use Rattle.channel_overs.specs.inner.Passed.{Passed}
use Rattle.channel_overs.proofs.passed_over.Given as goal

abbrev pub invariant-loop-at : goal.invariant-loop-at
invariant-loop-at l = (l.at ≤ l.m) × Passed (λ j. get_or l.items (j * l.n + l.c) (pos 0)) l.fn.p l.k l.at

abbrev pub decreases-loop-at : goal.decreases-loop-at
decreases-loop-at l = l.m - l.at
