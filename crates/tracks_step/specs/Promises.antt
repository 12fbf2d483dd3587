-- What a step of an album of tracks promises: some of its frames gathered out of windows, or converted too. A primed
-- list is one at exit.
use Rattle.std.specs.Prelude.{◌≡◌, Result, IfOk, List, [], ◌∷◌, ◌++◌, not, ℕ, ◌+◌, ◌-◌, ◌*◌, eqb, leb, length}
use Rattle.reference.specs.Frames.{Run, frame_bytes, frame_length}
use Rattle.reference.specs.Output.{samples, stats, s24le}
use Rattle.reference.specs.Refusals.{Place, place, number, decide, lent_length}
use Rattle.reference.specs.Promises.{by_decision}
use Rattle.reference.specs.declared.Settings.{Settings}
use Rattle.reference.specs.declared.ConvertStats.{ConvertStats}
use Rattle.wav_format.specs.Wav.{frame_size}
use Rattle.tracks.specs.Runs.{frames_from}
use Rattle.tracks.specs.Tracks.{Head, tracks_channels, tracks_frames, tracks_frame, tracks_piece, tracks_converter, open_places, refused_track}
use Rattle.tracks.specs.Windows.{low, high, windows_length, windowed_tracks}
use Rattle.tracks_open.specs.Open.{tracks_decision, Names, album_of}
use Rattle.tracks_open.specs.declared.Album.{Album}
use Rattle.tracks_open.specs.declared.Refused.{Refused}

-- ---- what is refused, after all that opening tries

-- bytes of the windows of a piece
abbrev pub piece_windows : List Head → ℕ → ℕ → ℕ
piece_windows hs first count = windows_length (tracks_channels hs) (low first * frame_bytes) (high hs first count * frame_bytes) 0 hs

-- 5: the album has not these frames; 11: the windows are of another length; 7: and so is the list for the frames
unfoldable pub piece_places : List Head → ℕ → ℕ → ℕ → ℕ → List Place
piece_places hs first count windows scratch =
    place (not (leb (first + count) (tracks_frames hs))) 5 (number first ∷ [])
    ∷ place (not (eqb windows (piece_windows hs first count))) 11 []
    ∷ lent_length 7 scratch ((high hs first count - low first) * frame_length (tracks_channels hs))
    ∷ []

unfoldable pub frames_places : List Head → Settings → ℕ → ℕ → ℕ → ℕ → List Place
frames_places hs s first count windows scratch = open_places hs s ++ piece_places hs first count windows scratch

-- 7: the list for the samples' bytes
unfoldable pub step_places : List Head → Settings → ℕ → ℕ → ℕ → ℕ → ℕ → List Place
step_places hs s first count windows scratch out =
    frames_places hs s first count windows scratch ++ (lent_length 7 out (count * frame_size s.rate (tracks_channels hs)) ∷ [])

-- ---- what is given, out of windows w

-- the frames of a piece, with those next to it, end to end
abbrev pub piece_frames : List Head → ℕ → ℕ → List ℕ → List ℕ
piece_frames hs first count w =
    frames_from (tracks_frame (tracks_channels hs) (windowed_tracks hs (tracks_channels hs) first count w)) (low first) (high hs first count - low first)

-- the piece
abbrev pub piece_run : List Head → ℕ → ℕ → List ℕ → Run
piece_run hs first count w = tracks_piece (tracks_channels hs) (windowed_tracks hs (tracks_channels hs) first count w) first count

-- ---- what is promised. Where an album is accepted, `refused_track` is 0

pub record FramesPromise (hs : List Head) (s : Settings) (first count : ℕ) (w scratch scratch' : List ℕ) (answer : Result Album Refused) : Type 0 where
  pub decided : tracks_decision answer ≡ decide (frames_places hs s first count (length w) (length scratch))
  pub named : Names (refused_track hs s) answer
  pub album : IfOk answer (λ a. a ≡ album_of s.rate hs)
  pub gathered : scratch' ≡ by_decision (decide (frames_places hs s first count (length w) (length scratch))) (piece_frames hs first count w) scratch

pub record StepPromise (hs : List Head) (s : Settings) (first count : ℕ) (w scratch scratch' out out' : List ℕ) (answer : Result ConvertStats Refused) : Type 0 where
  pub decided : tracks_decision answer ≡ decide (step_places hs s first count (length w) (length scratch) (length out))
  pub named : Names (refused_track hs s) answer
  pub counted : IfOk answer (λ t. t ≡ stats (tracks_converter s hs) (piece_run hs first count w))
  pub gathered : scratch' ≡ by_decision (decide (step_places hs s first count (length w) (length scratch) (length out))) (piece_frames hs first count w) scratch
  pub written : out' ≡ by_decision (decide (step_places hs s first count (length w) (length scratch) (length out))) (s24le (samples (tracks_converter s hs) (piece_run hs first count w))) out
