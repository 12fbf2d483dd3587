use Rattle.blocks.proofs.Sums.{Blocks}
use Rattle.blocks.specs.inner.Jobs.{job_run, job_bytes}
use Rattle.blocks.proofs.job.Job.channel.Given as goal

abbrev pub invariant-loop-b : goal.invariant-loop-b
invariant-loop-b g l = Blocks g.P.Place.layout l.self.conv l.self.route (job_run l.self) (job_bytes l.self l.channel) l.channel l.n l.b l.m l.at l.told l.buffers.x l.buffers.kept l.initial.out l.out
