use Rattle.std.proofs.Common.{◌*◌}
use Rattle.blocks.specs.inner.Jobs.{job_run, in_frame}
use Rattle.runs.proofs.Sums.{Columns}
use Rattle.runs.proofs.batch.Given as goal

abbrev pub invariant-loop-channel : goal.invariant-loop-channel
invariant-loop-channel g l = Columns g.P.Place.layout l.job.conv (job_run l.job) l.n (l.frames * in_frame l.job) l.channel l.clips l.initial.out l.out l.stats.channels
