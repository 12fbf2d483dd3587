-- An album of one track.
use Rattle.std.proofs.Common.{◌≡◌, refl, ap, ◌∙◌, ⊎_elim, List, [], ◌∷◌, append-nil, ℕ, ◌+◌, ◌*◌, ◌/◌, ◌≤◌, ◌<◌, zero-add, add-zero, le-div_iff_mul-le, arith}
use Rattle.std.proofs.Common.{get_or, le-ltb}
use lib.ListN.{get_or-eq_default}
use Rattle.numbers.proofs.Lists.{tabulate_same, get_d_tabulate, below_or}
use Rattle.reference.specs.Frames.{frame_length, idle}
use Rattle.reference.specs.Refusals.{decide}
use Rattle.dsf.specs.Dsf.{channels, bits_per_sample, sample_count, frames, frames_in, sample_byte, turn_byte, data_frame, file_data, file_frame}
use Rattle.tracks.specs.Tracks.{track_of, head_length, all_length, frames_of_bytes, tracks_frames, track_bytes, tracks_bytes}
use Rattle.tracks.specs.Tracks.{tracks_frame, tracks_run, first_places, rest_places, tracks_places, open_places}
use Rattle.tracks.specs.OneTrack.{file_run, OneTrack, OneTrackFrames, OneOpened}
use Rattle.tracks.proofs.Sequences.{from_same}
use Rattle.tracks.proofs.Bytes.{length_track}

pub one_track_frames : OneTrackFrames
unfolding tracks_frames frames_of_bytes all_length head_length frames frames_in
one_track_frames file = rw (add-zero (sample_count file / 8)) refl

module _ (file : List ℕ) (some : 0 < channels file) where
  abbrev n : ℕ
  n = channels file

  abbrev byte : ℕ → ℕ
  byte = turn_byte (file_data file) n (bits_per_sample file) (sample_count file)

  -- its bytes are the file's, and behind them idle
  one_byte : (j : ℕ) → get_or (track_bytes (track_of file)) j idle ≡ byte j
  unfolding track_bytes turn_byte sample_byte head_length
  one_byte j = ⊎_elim inside behind (below_or j (sample_count file / 8 * n))
    where
      inside : j < sample_count file / 8 * n → get_or (track_bytes (track_of file)) j idle ≡ byte j
      inside l = get_d_tabulate byte 0 (sample_count file / 8 * n) j idle l ∙ ap byte (zero-add j)

      behind : sample_count file / 8 * n ≤ j → get_or (track_bytes (track_of file)) j idle ≡ byte j
      behind l =
          let past : sample_count file / 8 ≤ j / n = (le-div_iff_mul-le {k = n} {x = sample_count file / 8} {y = j} some).1 l in
          get_or-eq_default (track_bytes (track_of file)) idle {n = j} (omega (arith, length_track (track_of file))) ∙ rw (le-ltb (j / n) (sample_count file / 8) past) refl

  one_frame : (k : ℕ) → tracks_frame n (track_of file ∷ []) k ≡ file_frame file k
  unfolding tracks_frame tracks_bytes data_frame
  one_frame k =
      tabulate_same (λ j. get_or (tracks_bytes (track_of file ∷ [])) j idle) byte (k * frame_length n) (k * frame_length n) (frame_length n)
      (λ i h. rw (append-nil) (one_byte (k * frame_length n + i)))

pub one_track : OneTrack
unfolding tracks_run file_run
one_track file some =
    rw (one_track_frames file, from_same (tracks_frame (channels file) (track_of file ∷ [])) (file_frame file) 0 0 (frames file) (λ k h. one_frame file some (0 + k))) refl

pub one_opened : OneOpened
unfolding open_places tracks_places rest_places first_places frames_of_bytes head_length frames frames_in
one_opened file s = ap decide (append-nil _)
