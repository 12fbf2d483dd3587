-- `series`: what is left to add gives what the whole gives.
use Rattle.std.proofs.Common.{◌≡◌, ◌-◌, ◌≤◌}
use Rattle.reference.specs.Scaling.{whole, series}
use Rattle.gain.proofs.db.series.Given as goal

abbrev pub invariant-loop-k : goal.invariant-loop-k
invariant-loop-k l = (1 ≤ l.k) × (l.k ≤ 26) × (series l.r (26 - l.k) l.k l.term l.sum ≡ series l.r 25 1 (whole 1) (whole 1))
