-- An album of one track is its file.
use Rattle.std.specs.Prelude.{◌≡◌, List, [], ◌∷◌, ◌++◌, false, ℕ, ◌<◌, length}
use Rattle.reference.specs.Frames.{Run, run}
use Rattle.reference.specs.Refusals.{rack, decide, too_many, opening_places}
use Rattle.reference.specs.declared.Settings.{Settings}
use Rattle.dsf.specs.Dsf.{channels, frames, file_frame}
use Rattle.dsf.specs.Reading.{header_places}
use Rattle.tracks.specs.Runs.{frames_from}
use Rattle.tracks.specs.Tracks.{head_of, track_of, tracks_frames, tracks_run, settings_for, open_places}

-- the file's frames, and nothing before or after
unfoldable pub file_run : List ℕ → Run
file_run file = run false [] (frames_from (file_frame file) 0 (frames file)) false []

-- the album of one track is the file's frames. Proved in proofs/OneTrack, `one_track`
abbrev pub OneTrack : Type 0
OneTrack = (file : List ℕ) → 0 < channels file → tracks_run (channels file) (track_of file ∷ []) ≡ file_run file

abbrev pub OneTrackFrames : Type 0
OneTrackFrames = (file : List ℕ) → tracks_frames (head_of file ∷ []) ≡ frames file

-- and it is refused where one file is: 9, 10, 11 of its header; 1, 2, 3, 17, 18 of the settings; 5 of its frames.
-- Proved there, `one_opened`
abbrev pub OneOpened : Type 0
OneOpened =
    (file : List ℕ) (s : Settings)
    → decide (open_places (head_of file ∷ []) s) ≡ decide (header_places file (length file) ++ (opening_places (settings_for s (channels file)) ++ (too_many rack (frames file) ∷ [])))
