-- The plan: pieces of at most 128 frames.
use Rattle.std.specs.Prelude.{Option, Some, None, cond, ltb, ℕ, ◌+◌, ◌-◌, ◌*◌, min}
use Rattle.reference.specs.Frames.{frame_length}
use Rattle.tracks.specs.Windows.{low}
use Rattle.tracks_open.specs.Open.{piece_total}
use Rattle.tracks_open.specs.declared.Album.{Album}
use Rattle.tracks_plan.specs.declared.cutting.Piece.{Piece}

-- the frame behind the last that is read for some frames of f
abbrev pub last : ℕ → ℕ → ℕ → ℕ
last f first count = min (first + count + 1) f

-- frames of the piece that begins at a frame
unfoldable pub piece_count : ℕ → ℕ → ℕ
piece_count f first = min 128 (f - first)

unfoldable pub piece_from : Album → ℕ → Piece
piece_from a first =
    let count = piece_count a.frames first in
    record {
      first = first;
      count = count;
      place = first * a.frame;
      bytes = count * a.frame;
      scratch = (last a.frames first count - low first) * frame_length a.channels;
    }

-- piece i of an album
unfoldable pub piece_at : Album → ℕ → Option Piece
piece_at a i = cond (ltb i (piece_total a.frames)) (Some (piece_from a (i * 128))) None
