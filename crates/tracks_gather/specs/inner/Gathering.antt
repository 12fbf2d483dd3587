-- What gathering asks for, and how it is done; no part of a promise.
use Rattle.std.specs.Prelude.{◌≡◌, List, [], ◌∷◌, ℕ, ◌+◌, ◌-◌, ◌*◌, ◌≤◌, ◌<◌, min, length}
use Rattle.numbers.specs.Lists.{Each}
use Rattle.reference.specs.Frames.{frame_bytes, frame_length}
use Rattle.reference.specs.Refusals.{most}
use Rattle.reference.specs.declared.Limit.TheVariants as limit
use Rattle.dsf.specs.Dsf.{channels, bits_per_sample, sample_count}
use Rattle.tracks.specs.Tracks.{Head, Track, head_length, all_length, head_at, heads_of}
use Rattle.tracks.specs.Windows.{read_start, read_bytes, windowed_data, windows_length}
use Rattle.tracks_open.specs.inner.Open.{TracksArgs}
use Rattle.tracks_put.specs.declared.Span.{Span}
use Rattle.tracks_put.specs.inner.Placing.{with_track}
use Rattle.tracks_gather.specs.declared.Start.{Start}

-- ---- what is done

-- a buffer for bytes a to b of an album, with a track's put into it
abbrev pub with_one : ℕ → ℕ → ℕ → ℕ → Track → List ℕ → List ℕ
with_one n a b o t = with_track t.read n (bits_per_sample t.head.bytes) (sample_count t.head.bytes) o a b

-- with those of all tracks, the first of which begins at byte o
unfoldable pub with_tracks : ℕ → ℕ → ℕ → ℕ → List Track → List ℕ → List ℕ
with_tracks n a b o [] l = l
with_tracks n a b o (t ∷ ts) l = with_tracks n a b (o + head_length t.head) ts (with_one n a b o t l)

-- where the tracks end in the buffer
abbrev pub fill_at : ℕ → ℕ → ℕ → ℕ → ℕ
fill_at n total a b = (min total b - a) * n

-- ---- one track

pub record TakeArgs (heads lengths : List ℕ) (k : ℕ) (start : Start) (span : Span) (size room : ℕ) : Type 0 where
  pub is : TracksArgs heads lengths
  pub there : k < length lengths
  pub one : 1 ≤ channels (head_at heads lengths k).bytes
  pub six : channels (head_at heads lengths k).bytes ≤ 6
  pub order : span.from ≤ span.to
  pub most : span.to ≤ 2540160000
  pub lent : room ≡ (span.to - span.from) * channels (head_at heads lengths k).bytes
  pub within : start.window + read_bytes (channels (head_at heads lengths k).bytes) (head_at heads lengths k) start.byte span.from span.to ≤ size
  pub short : start.byte + head_length (head_at heads lengths k) ≤ 2540160000

pub record TrackTaken (h : Head) (start : Start) (span : Span) (windows old new : List ℕ) (next : Start) : Type 0 where
  pub put :
      new
      ≡ with_one (channels h.bytes) span.from span.to start.byte
      (record { head = h; read = windowed_data (read_start (channels h.bytes) h start.byte span.from span.to) start.window windows }) old
  pub byte : next.byte ≡ start.byte + head_length h
  pub window : next.window ≡ start.window + read_bytes (channels h.bytes) h start.byte span.from span.to

-- ---- all tracks: of the same channels, with their windows, and a buffer for so many frames

pub record GatherArgs (heads lengths : List ℕ) (n : ℕ) (frames : Span) (size room : ℕ) : Type 0 where
  pub is : TracksArgs heads lengths
  pub one : 1 ≤ n
  pub six : n ≤ 6
  pub alike : Each (λ h. channels h.bytes ≡ n) (heads_of heads lengths)
  pub short : all_length (heads_of heads lengths) ≤ 2540160000
  pub order : frames.from ≤ frames.to
  pub most : frames.to ≤ most limit.Rack
  pub windows : size ≡ windows_length n (frames.from * frame_bytes) (frames.to * frame_bytes) 0 (heads_of heads lengths)
  pub lent : room ≡ (frames.to - frames.from) * frame_length n
