use Rattle.std.proofs.Common.{◌-◌, ◌≤◌}
use Rattle.channel_overs.proofs.Turns.{SoFar}
use Rattle.channel_overs.proofs.overs.Given as goal

abbrev pub invariant-loop-k : goal.invariant-loop-k
invariant-loop-k l = (l.k ≤ l.m) × SoFar l.items l.n l.c l.k l.initial.state l.state l.count

abbrev pub decreases-loop-k : goal.decreases-loop-k
decreases-loop-k l = l.m - l.k
