-- What the calls about an album go by inside.
use Rattle.std.specs.Prelude.{◌≡◌, Result, Ok, Err, List, ℕ, ◌*◌, length}
use Rattle.reference.specs.declared.Settings.{Settings}
use Rattle.tracks.specs.Tracks.{Head, tracks_frames, heads_of}
use Rattle.tracks_open.specs.Open.{AlbumFits}
use Rattle.tracks_open.specs.declared.Album.{Album}
use Rattle.tracks_open.specs.declared.Refused.{Refused}
use Rattle.tracks_plan.specs.inner.Asked.{SizedTracks}
use Rattle.c_tracks.specs.Calls.{all_marks}

-- ---- opening

-- of an answer
abbrev pub marks_after : Result Album Refused → Settings → List Head → List ℕ → List ℕ
marks_after (Ok a) s hs old = all_marks s.rate a.channels hs
marks_after (Err e) s hs old = old

-- ---- what the code asks for; no part of a promise

pub record PlanArgs (bytes lengths : List ℕ) (a : Album) (room : ℕ) : Type 0 where
  pub sized : SizedTracks bytes lengths
  pub fits : AlbumFits a
  pub frames : a.frames ≡ tracks_frames (heads_of bytes lengths)
  pub lent : room ≡ 2 * length lengths
