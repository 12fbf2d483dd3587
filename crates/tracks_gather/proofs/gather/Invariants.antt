use Rattle.std.proofs.Common.{length}
use Rattle.tracks.specs.Tracks.{heads_of, all_length}
use Rattle.tracks.specs.Windows.{windowed}
use Rattle.tracks_open.specs.inner.Trying.{heads_from}
use Rattle.tracks_gather.specs.inner.Gathering.{with_tracks}
use Rattle.tracks_gather.proofs.Going.{Going}
use Rattle.tracks_gather.proofs.gather.Given as goal

abbrev pub invariant-loop-k : goal.invariant-loop-k
invariant-loop-k l =
    let t = l.tracks in
    let hs = heads_of t.heads.now t.lengths.now in
    Going l.channels l.span (all_length hs) (length l.initial.out) l.windows
    (with_tracks l.channels l.span.from l.span.to 0 (windowed l.channels l.span.from l.span.to 0 0 l.windows hs) l.initial.out)
    (heads_from t.heads.now t.lengths.now l.k) l.next l.out
