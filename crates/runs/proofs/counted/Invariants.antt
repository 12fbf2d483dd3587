use Rattle.std.proofs.Common.{◌*◌}
use Rattle.numbers.specs.inner.Lists.{Held}
use Rattle.reference.specs.Output.{frame_clips}
use Rattle.blocks.specs.inner.Jobs.{job_run, in_frame}
use Rattle.runs.specs.inner.Loops.{Covered}
use Rattle.runs.proofs.counted.Given as goal

abbrev pub invariant-loop-f : goal.invariant-loop-f
invariant-loop-f g l = Covered g.P.Place.layout l.job.conv (job_run l.job) 0 (l.f * in_frame l.job) l.initial.out l.out l.stats.channels
    × Held 0 (frame_clips l.job.conv (job_run l.job)) 0 l.f l.counts
