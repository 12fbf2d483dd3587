use Rattle.tracks_open.proofs.Following.{one_more}
use Rattle.tracks_open.proofs.rest.Goals as goal

pub loop-k-preserved : goal.loop-k-preserved
loop-k-preserved c =
    let l = c.loop-k in
    one_more _ _ _ _ l.k l.end l.invariant c.loop-k-test.true _ (rw c.head.ensures at c.in-Ok.ensures)
