use Rattle.std.proofs.Common.{refl}
use Rattle.reference.specs.Statistics.{no_stats}
use Rattle.runs.proofs.Sums.{tallied_none, covered_more, run_done}
use Rattle.runs.proofs.every.Goals as goal

pub counted-requires-clause-tallied : goal.counted-requires-clause-tallied
unfolding no_stats
counted-requires-clause-tallied g c = rw c.no_stats-stats.ensures tallied_none

pub returns : goal.returns
returns g c =
    let job = c.args.job.now in
    let later = rw c.counted.auto.counts at c.uncounted.ensures in
    run_done g.met.P.Place.some job c.requires.room (covered_more c.counted.ensures.covered later) c.counted.ensures.value refl
