-- The stretch of a track to read, by numbers; no part of a promise.
use Rattle.std.specs.Prelude.{List, ℕ, ◌*◌, ◌/◌, ◌≤◌, cond, ltb}
use Rattle.dsf.specs.Dsf.{block, blocks}
use Rattle.tracks.specs.Tracks.{all_length, heads_of}
use Rattle.tracks_open.specs.inner.Open.{TracksArgs}
use Rattle.tracks_put.specs.declared.Span.{Span}
use Rattle.tracks_put.specs.inner.Placing.{track_from, track_to}

unfoldable pub read_from : ℕ → ℕ → ℕ → Span → ℕ
read_from n size o span = cond (ltb (track_from o span.from) (track_to size o span.to)) (track_from o span.from / block * block * n) 0

unfoldable pub read_to : ℕ → ℕ → ℕ → Span → ℕ
read_to n size o span = cond (ltb (track_from o span.from) (track_to size o span.to)) (blocks (track_to size o span.to) * block * n) 0

pub record ReadArgs (n : ℕ) (span : Span) : Type 0 where
  pub six : n ≤ 6
  pub most : span.to ≤ 2540160000

-- of tracks that make no more than two hours
pub record WindowsArgs (heads lengths : List ℕ) (n : ℕ) (span : Span) : Type 0 where
  pub is : TracksArgs heads lengths
  pub short : all_length (heads_of heads lengths) ≤ 2540160000
  pub six : n ≤ 6
  pub most : span.to ≤ 2540160000
