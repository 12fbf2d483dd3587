use Rattle.std.proofs.Common.{◌*◌, ◌-◌, ◌≤◌}
use Rattle.blocks.specs.inner.Jobs.{job_run, in_frame}
use Rattle.runs.specs.inner.Loops.{Covered}
use Rattle.runs.proofs.uncounted.Given as goal

abbrev pub invariant-loop-f : goal.invariant-loop-f
invariant-loop-f g l = (l.f ≤ l.job.slices.count) × Covered g.P.Place.layout l.job.conv (job_run l.job) (l.from * in_frame l.job) (l.f * in_frame l.job) l.initial.out l.out l.stats.channels

abbrev pub decreases-loop-f : goal.decreases-loop-f
decreases-loop-f g l = l.job.slices.count - l.f
