use Rattle.std.proofs.Common.{◌≡◌, ◌+◌, ◌*◌, length, ◌∙◌, arith}
use Rattle.numbers.proofs.Lists.{held_more, is_tabulate}
use Rattle.reference.specs.Output.{frame_clips}
use Rattle.blocks.specs.inner.Jobs.{job_run, in_frame}
use Rattle.runs.proofs.Sums.{covered_more, frames_fit, frame_told}
use Rattle.runs.proofs.counted.Goals as goal

pub batch-requires-clause-place : goal.batch-requires-clause-place
batch-requires-clause-place g c =
    let job = c.args.job.now in
    rw c.samples_per_frame-samples.ensures.0 (frames_fit job.conv.rate c.loop-f.f 1 job.slices.count (omega arith))

pub loop-f-preserved : goal.loop-f-preserved
loop-f-preserved g c =
    let job = c.args.job.now in
    let f = c.loop-f.f in
    let told = rw c.samples_per_frame-samples.ensures.0 at c.batch.ensures in
    let next : f * in_frame job + 1 * in_frame job ≡ (f + 1) * in_frame job = omega arith in
    let z : 0 + f ≡ f = omega arith in (
      rw next at (covered_more c.loop-f.invariant.0 told.covered),
      held_more c.loop-f.invariant.1 (omega arith) (rw z (told.value ∙ frame_told job.conv (job_run job) f)),
    )

pub returns-clause-value : goal.returns-clause-value
returns-clause-value g c =
    let job = c.args.job.now in
    is_tabulate (frame_clips job.conv (job_run job)) 0 (length c.args.counts.now) 0 c.loop-f.counts (omega arith) (λ i l. c.loop-f.invariant.1.is i (omega arith))
