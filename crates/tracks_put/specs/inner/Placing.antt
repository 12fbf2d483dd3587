-- A buffer for some bytes of an album, with a track's put into it, and with idle bytes behind the last track.
use Rattle.std.specs.Prelude.{◌≡◌, List, ℕ, ◌+◌, ◌-◌, ◌*◌, ◌/◌, ◌≤◌, ◌<◌, ◌^◌, length, replicate, min}
use Rattle.text.specs.Text.{with_text}
use Rattle.reference.specs.Frames.{idle}
use Rattle.dsf.specs.Dsf.{block, blocks}
use Rattle.tracks_put.specs.inner.Putting.{stretch}
use Rattle.tracks_put.specs.declared.Span.{Span}

-- of an album's bytes a to b of each channel, those of a track of `size` bytes that begins at byte o: its own bytes
-- `track_from` to `track_to`, which stand from byte `track_at` of the buffer on. A track that has none there has a
-- `track_to` that is not behind `track_from`
abbrev pub track_from : ℕ → ℕ → ℕ
track_from o a = a - o

abbrev pub track_to : ℕ → ℕ → ℕ → ℕ
track_to size o b = min size (b - o)

abbrev pub track_at : ℕ → ℕ → ℕ
track_at o a = o - a

-- a buffer with them put into it, out of data whose byte j is `read j`
unfoldable pub with_track : (ℕ → ℕ) → ℕ → ℕ → ℕ → ℕ → ℕ → ℕ → List ℕ → List ℕ
with_track read n bits samples o a b l = with_text l (track_at o a * n) (stretch read n bits samples (track_from o a) (track_to (samples / 8) o b))

-- with idle bytes from a place on
unfoldable pub with_fill : ℕ → List ℕ → List ℕ
with_fill at l = with_text l at (replicate (length l - at) idle)

-- ---- what the code asks for

-- a window holds the track's bytes that lie there, where it has some
pub record TrackArgs (n samples o : ℕ) (span : Span) (start size out : ℕ) : Type 0 where
  pub one : 1 ≤ n
  pub six : n ≤ 6
  pub order : span.from ≤ span.to
  pub small : span.to ≤ 2 ^ 60
  pub lent : out ≡ (span.to - span.from) * n
  pub begins : track_from o span.from < track_to (samples / 8) o span.to → start ≤ track_from o span.from / block * block * n
  pub covers : track_from o span.from < track_to (samples / 8) o span.to → blocks (track_to (samples / 8) o span.to) * block * n ≤ start + size
