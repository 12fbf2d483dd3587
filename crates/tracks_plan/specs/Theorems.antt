-- What is proved of the plan.
use Rattle.std.specs.Prelude.{◌≡◌, Some, List, ℕ, ◌+◌, ◌*◌, ◌≤◌, ◌<◌, length}
use Rattle.numbers.specs.Lists.{Each}
use Rattle.reference.specs.Frames.{frame_bytes}
use Rattle.reference.specs.Refusals.{accepted, decide}
use Rattle.reference.specs.declared.PcmRate.{PcmRate}
use Rattle.reference.specs.declared.Settings.{Settings}
use Rattle.wav_format.specs.Wav.{frame_size}
use Rattle.tracks.specs.Tracks.{Head, tracks_channels, open_places}
use Rattle.tracks.specs.Windows.{low, high, read_end, windows_length}
use Rattle.tracks_open.specs.Open.{piece_total, album_of}
use Rattle.tracks_plan.specs.Plan.{piece_count, piece_at}
use Rattle.tracks_plan.specs.declared.cutting.Piece.{Piece}

-- the plan cuts an album of f frames: each piece ends where the next begins, the last with the album. Proved in
-- proofs/Pieces, `plan_cuts`
pub record PlanCuts (f : ℕ) : Type 0 where
  pub follows : (i : ℕ) → i + 1 < piece_total f → i * 128 + piece_count f (i * 128) ≡ (i + 1) * 128
  pub ends : (i : ℕ) → i + 1 ≡ piece_total f → i * 128 + piece_count f (i * 128) ≡ f

-- what a piece of an album asks at most: bytes that are read, of 130 frames and of two blocks more for each track and
-- channel; bytes of the frames that it is made of; and of its samples
pub record AsksAtMost (rate : PcmRate) (hs : List Head) (p : Piece) : Type 0 where
  pub windows : windows_length (tracks_channels hs) (low p.first * frame_bytes) (high hs p.first p.count * frame_bytes) 0 hs
      ≤ (130 * frame_bytes + 8192 * length hs) * tracks_channels hs
  pub scratch : p.scratch ≤ 130 * frame_bytes * tracks_channels hs
  pub bytes : p.bytes ≤ 128 * frame_size rate (tracks_channels hs)

-- proved in proofs/Amounts, `asks_at_most`
abbrev pub PiecesAskAtMost : Type 0
PiecesAskAtMost = (rate : PcmRate) (hs : List Head) (i : ℕ) (p : Piece) → piece_at (album_of rate hs) i ≡ Some p → AsksAtMost rate hs p

-- of an album that is accepted, what is read of a track that begins at byte o, for any bytes a to b of each channel, is
-- in its file, whose data begin at byte 92. Proved in proofs/Within, `reads_within`
abbrev pub ReadsWithin : Type 0
ReadsWithin =
    (hs : List Head) (s : Settings) → decide (open_places hs s) ≡ accepted
    → Each (λ h. (o a b : ℕ) → 92 + read_end (tracks_channels hs) h o a b ≤ h.long) hs
