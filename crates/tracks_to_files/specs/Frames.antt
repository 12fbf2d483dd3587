-- Frames gathered out of windows of files are the files' frames; so are those that a call on tracks leaves.
use Rattle.std.specs.Prelude.{◌≡◌, Result, List, ℕ, ◌-◌}
use Rattle.numbers.specs.Lists.{Each}
use Rattle.reference.specs.Refusals.{accepted}
use Rattle.reference.specs.declared.Settings.{Settings}
use Rattle.dsf.specs.Dsf.{channels}
use Rattle.tracks.specs.Runs.{frames_from}
use Rattle.tracks.specs.Tracks.{Head, heads, tracks_channels, tracks_frame}
use Rattle.tracks.specs.Windows.{low, high, windowed_tracks, HeadsOf, WindowsOf}
use Rattle.tracks_open.specs.Open.{tracks_decision}
use Rattle.tracks_open.specs.declared.Album.{Album}
use Rattle.tracks_open.specs.declared.Refused.{Refused}
use Rattle.tracks_step.specs.Promises.{FramesPromise}
use Rattle.tracks_to_files.specs.Heads.{tracks_of}

-- for any frames, with those next to them, end to end. Proved in proofs/Frames, `windowed_frames`
abbrev pub WindowedFrames : Type 0
WindowedFrames =
    (n : ℕ) (files : List (List ℕ)) (hs : List Head) (first count : ℕ) (w : List ℕ) → HeadsOf files hs → Each (λ h. channels h.bytes ≡ n) hs
    → WindowsOf files hs n first count w
    → frames_from (tracks_frame n (windowed_tracks hs n first count w)) (low first) (high hs first count - low first)
    ≡ frames_from (tracks_frame n (tracks_of files)) (low first) (high hs first count - low first)

-- `count` frames of these files from frame `first` on, with those next to them, end to end
abbrev pub files_frames : List (List ℕ) → ℕ → ℕ → List ℕ
files_frames files first count =
    let ts = tracks_of files in
    frames_from (tracks_frame (tracks_channels (heads ts)) ts) (low first) (high (heads ts) first count - low first)

-- an accepted call leaves exactly these. Proved in proofs/Frames, `frames_of_files`
abbrev pub FramesOfFiles : Type 0
FramesOfFiles =
    (files : List (List ℕ)) (hs : List Head) (s : Settings) (first count : ℕ) (w scratch scratch' : List ℕ) (answer : Result Album Refused)
    → HeadsOf files hs → WindowsOf files hs (tracks_channels hs) first count w
    → FramesPromise hs s first count w scratch scratch' answer → tracks_decision answer ≡ accepted
    → scratch' ≡ files_frames files first count
