-- The marks of the first k tracks are written, and the next track begins at `place`.
use Rattle.std.proofs.Common.{◌≡◌}
use Rattle.numbers.specs.inner.Lists.{Held}
use Rattle.tracks.specs.Tracks.{heads_of, offset, data_start}
use Rattle.tracks_plan.proofs.marking.marks.Given as goal

abbrev pub invariant-loop-k : goal.invariant-loop-k
invariant-loop-k l =
    (l.place ≡ offset (heads_of l.tracks.heads.now l.tracks.lengths.now) l.k)
    × Held 0 (data_start l.rate l.channels (heads_of l.tracks.heads.now l.tracks.lengths.now)) 0 l.k l.out
