-- The tracks before the k-th are taken.
use Rattle.tracks_open.proofs.Following.{SoFar}
use Rattle.tracks_open.proofs.rest.Given as goal

abbrev pub invariant-loop-k : goal.invariant-loop-k
invariant-loop-k l = SoFar l.tracks.heads.now l.tracks.lengths.now l.channel_type l.bytes l.k l.end
