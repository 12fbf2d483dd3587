-- The stretches of the first k tracks are written, and the next track begins at `offset`.
use Rattle.tracks_plan.proofs.Stretches.{SoFar}
use Rattle.tracks_plan.proofs.reading.between.Given as goal

abbrev pub invariant-loop-k : goal.invariant-loop-k
invariant-loop-k l = SoFar l.tracks.heads.now l.tracks.lengths.now l.channels l.span.from l.span.to l.k l.offset l.all l.out
