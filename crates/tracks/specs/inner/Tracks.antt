-- Bytes of a track, and of all tracks, by position.
use Rattle.std.specs.Prelude.{List, [], ◌∷◌, cond, ℕ, ◌-◌, ltb}
use Rattle.reference.specs.Frames.{idle}
use Rattle.dsf.specs.Dsf.{channels, bits_per_sample, sample_count, sample_byte}
use Rattle.tracks.specs.Tracks.{Track, head_length}

-- ---- bytes and frames

-- byte p of channel c of a track, and of all of them with idle behind the last: the same by position. Proved in
-- proofs/Bytes, `bytes_by_position`
abbrev pub track_byte : Track → ℕ → ℕ → ℕ
track_byte t = sample_byte t.read (channels t.head.bytes) (bits_per_sample t.head.bytes) (sample_count t.head.bytes)

unfoldable pub tracks_byte : List Track → ℕ → ℕ → ℕ
tracks_byte [] c p = idle
tracks_byte (t ∷ ts) c p = cond (ltb p (head_length t.head)) (track_byte t c p) (tracks_byte ts c (p - head_length t.head))
