-- What the parts of a step ask for and give; no part of a promise.
use Rattle.std.specs.Prelude.{◌≡◌, Result, IfOk, List, [], ◌∷◌, ℕ, ◌+◌, ◌-◌, ◌*◌, ◌≤◌, not, eqb, leb}
use Rattle.reference.specs.Frames.{frame_bytes, frame_length}
use Rattle.reference.specs.Refusals.{Place, place, number, decide, lent_length, most}
use Rattle.reference.specs.Refusals as refusals
use Rattle.reference.specs.declared.PcmError.{PcmError}
use Rattle.reference.specs.declared.Settings.{Settings}
use Rattle.reference.specs.declared.Limit.TheVariants as limit
use Rattle.tracks.specs.Tracks.{Head, heads_of, tracks_channels, tracks_frames, all_length, refused_track}
use Rattle.tracks.specs.Windows.{low, high, windows_length}
use Rattle.tracks_open.specs.Open.{tracks_decision, Names, album_of}
use Rattle.tracks_open.specs.inner.Open.{TracksArgs}
use Rattle.tracks_open.specs.declared.Album.{Album}
use Rattle.tracks_open.specs.declared.Refused.{Refused}
use Rattle.tracks_put.specs.declared.Span.{Span}
use Rattle.tracks_step.specs.Promises.{piece_places, frames_places}
use Rattle.tracks_step.specs.declared.Gathered.{Gathered}

-- ---- the lists

abbrev pub no_frames : ℕ → ℕ → ℕ → Place
no_frames frames first count = place (not (leb (first + count) frames)) 5 (number first ∷ [])

unfoldable pub lent_places : List Head → ℕ → Span → ℕ → ℕ → List Place
lent_places hs n frames windows scratch =
    place (not (eqb windows (windows_length n (frames.from * frame_bytes) (frames.to * frame_bytes) 0 hs))) 11 []
    ∷ lent_length 7 scratch ((frames.to - frames.from) * frame_length n)
    ∷ []

pub record LentArgs (heads lengths : List ℕ) (n : ℕ) (frames : Span) : Type 0 where
  pub is : TracksArgs heads lengths
  pub six : n ≤ 6
  pub order : frames.from ≤ frames.to
  pub most : frames.to ≤ most limit.Rack
  pub short : all_length (heads_of heads lengths) ≤ 2540160000

-- ---- the frames that are asked

pub record FitArgs (heads lengths : List ℕ) (a : Album) : Type 0 where
  pub is : TracksArgs heads lengths
  pub channels : a.channels ≡ tracks_channels (heads_of heads lengths)
  pub frames : a.frames ≡ tracks_frames (heads_of heads lengths)
  pub six : a.channels ≤ 6
  pub most : a.frames ≤ most limit.Rack
  pub short : all_length (heads_of heads lengths) ≤ 2540160000

abbrev pub piece_span : List Head → ℕ → ℕ → Span
piece_span hs first count = record { from = low first; to = high hs first count }

pub record Fitting (hs : List Head) (first count windows scratch : ℕ) (answer : Result Span PcmError) : Type 0 where
  pub decided : refusals.decision answer ≡ decide (piece_places hs first count windows scratch)
  pub frames : IfOk answer (λ f. f ≡ piece_span hs first count)

-- ---- the album and its frames

pub record ReadyPromise (hs : List Head) (s : Settings) (first count windows scratch : ℕ) (answer : Result Gathered Refused) : Type 0 where
  pub decided : tracks_decision answer ≡ decide (frames_places hs s first count windows scratch)
  pub named : Names (refused_track hs s) answer
  pub ready : IfOk answer (λ r. r ≡ record { album = album_of s.rate hs; frames = piece_span hs first count })
