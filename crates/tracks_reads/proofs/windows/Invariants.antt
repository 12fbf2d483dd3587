use Rattle.tracks_reads.proofs.Ahead.{Ahead}
use Rattle.tracks_reads.proofs.windows.Given as goal

abbrev pub invariant-loop-k : goal.invariant-loop-k
invariant-loop-k l = Ahead l.tracks.heads.now l.tracks.lengths.now l.channels l.span l.k l.begins l.bytes
