-- What the code asks for; no part of a promise.
use Rattle.std.specs.Prelude.{◌≡◌, List, ℕ, ◌+◌, ◌*◌, ◌≤◌, length}
use Rattle.tracks.specs.Tracks.{heads_of, all_length, tracks_frames}
use Rattle.tracks_put.specs.declared.Span.{Span}
use Rattle.tracks_open.specs.Open.{AlbumFits}
use Rattle.tracks_open.specs.inner.Open.{TracksArgs}
use Rattle.tracks_open.specs.declared.Album.{Album}

-- tracks that are not longer than two hours
pub record SizedTracks (heads lengths : List ℕ) : Type 0 where
  pub args : TracksArgs heads lengths
  pub most : all_length (heads_of heads lengths) ≤ 2540160000

-- two numbers are lent for each
pub record BetweenArgs (heads lengths : List ℕ) (channels : ℕ) (span : Span) (room : ℕ) : Type 0 where
  pub sized : SizedTracks heads lengths
  pub few : channels ≤ 6
  pub most : span.to ≤ 2540160000
  pub lent : room ≡ 2 * length lengths

-- frames of an album
pub record ReadsArgs (heads lengths : List ℕ) (a : Album) (first count room : ℕ) : Type 0 where
  pub sized : SizedTracks heads lengths
  pub fits : AlbumFits a
  pub frames : a.frames ≡ tracks_frames (heads_of heads lengths)
  pub within : first + count ≤ a.frames
  pub lent : room ≡ 2 * length lengths
