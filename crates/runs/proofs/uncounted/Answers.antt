use Rattle.std.proofs.Common.{arith}
use Rattle.runs.proofs.Sums.{frames_fit}
use Rattle.runs.proofs.uncounted.Goals as goal

pub batch-requires-clause-place : goal.batch-requires-clause-place
batch-requires-clause-place g c =
    let job = c.args.job.now in
    rw c.samples_per_frame-samples.ensures.0 (frames_fit job.conv.rate c.loop-f.f _ job.slices.count (omega arith))
