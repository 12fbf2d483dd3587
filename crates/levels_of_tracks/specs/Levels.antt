-- Levels of an album of tracks: its frames, gathered piece by piece and by whoever, and told one by one, give the level
-- report of the whole album.
use Rattle.std.specs.Prelude.{◌≡◌, Result, List, [], ◌∷◌, ◌++◌, map, sum, ℕ, zero, suc, ◌+◌, ◌-◌, ◌≤◌, ◌<◌, replicate}
use Rattle.text.specs.Text.{joined}
use Rattle.reference.specs.Frames.{Run}
use Rattle.reference.specs.Output.{frame_clips}
use Rattle.reference.specs.Refusals.{decide, accepted}
use Rattle.reference.specs.declared.Settings.{Settings}
use Rattle.overs.specs.Overs.{Progress}
use Rattle.level_lines.specs.Lines.{last_line}
use Rattle.levels.specs.Levels.{FrameOf, piece_lines, piece_states}
use Rattle.level_frames.specs.Report.{lines_of, text_by}
use Rattle.c_levels.specs.Standings.{held_standings}
use Rattle.tracks.specs.Tracks.{Head, heads, tracks_channels, tracks_frames, tracks_run, tracks_converter, open_places}
use Rattle.tracks.specs.Windows.{low, HeadsOf, WindowsOf}
use Rattle.tracks_open.specs.Open.{tracks_decision}
use Rattle.tracks_open.specs.declared.Album.{Album}
use Rattle.tracks_open.specs.declared.Refused.{Refused}
use Rattle.tracks_step.specs.Promises.{FramesPromise}
use Rattle.tracks_to_files.specs.Heads.{tracks_of}

-- ---- frames

-- the album's frames end to end, the last one filled up with idle
abbrev pub album_frames : List (List ℕ) → List ℕ
album_frames files = (tracks_run (tracks_channels (heads (tracks_of files))) (tracks_of files)).frames

-- the piece is frame f with the frames next to it, cut out of the list that an accepted call for frames left. The call
-- may be for any frames that f is among; its list begins with frame `low first`
pub record GatheredRun (files : List (List ℕ)) (hs : List Head) (s : Settings) (f : ℕ) (piece : Run) : Type 0 where
  pub first : ℕ
  pub count : ℕ
  pub from : first ≤ f
  pub to : f < first + count
  pub windows : List ℕ
  pub of_windows : WindowsOf files hs (tracks_channels hs) first count windows
  pub scratch : List ℕ
  pub scratch' : List ℕ
  pub answer : Result Album Refused
  pub promise : FramesPromise hs s first count windows scratch scratch' answer
  pub taken : tracks_decision answer ≡ accepted
  pub cut : FrameOf (tracks_channels hs) scratch' (f - low first) piece

-- it is frame f of the album. Proved in proofs/Frames, `gathered_frame`
abbrev pub GatheredFrame : Type 0
GatheredFrame =
    (files : List (List ℕ)) (hs : List Head) (s : Settings) (f : ℕ) (piece : Run) → HeadsOf files hs → GatheredRun files hs s f piece
    → FrameOf (tracks_channels hs) (album_frames files) f piece

-- ---- what is in progress before a frame

-- what a call on frame f left, from whatever was in progress: whoever takes up at a piece tells the frame before it
-- first
pub record Left (files : List (List ℕ)) (hs : List Head) (s : Settings) (f : ℕ) (states : List Progress) : Type 0 where
  pub piece : Run
  pub gathered : GatheredRun files hs s f piece
  pub before : List Progress
  pub after : states ≡ piece_states (tracks_converter s hs) before piece

-- nothing before the first frame, twelve zeros
abbrev pub Before : List (List ℕ) → List Head → Settings → ℕ → List Progress → Type 0
Before files hs s zero states = states ≡ held_standings (replicate 12 0)
Before files hs s (suc f) states = Left files hs s f states

-- ---- the report

-- a call on a frame
pub record FrameTold (files : List (List ℕ)) (hs : List Head) (s : Settings) : Type 0 where
  pub f : ℕ
  pub piece : Run
  pub gathered : GatheredRun files hs s f piece
  pub states : List Progress
  pub before : Before files hs s f states

-- what it tells (c_levels/specs/Calls)
abbrev pub lines : {files : List (List ℕ)} {hs : List Head} {s : Settings} → FrameTold files hs s → List ℕ
lines {files} {hs} {s} c = piece_lines (tracks_converter s hs) c.f c.states c.piece

abbrev pub clips_told : {files : List (List ℕ)} {hs : List Head} {s : Settings} → FrameTold files hs s → ℕ
clips_told {files} {hs} {s} c = frame_clips (tracks_converter s hs) c.piece 0

-- calls on frames a, …, b - 1
abbrev pub FramesTold : {files : List (List ℕ)} {hs : List Head} {s : Settings} → ℕ → ℕ → List (FrameTold files hs s) → Type 0
FramesTold a b [] = a ≡ b
FramesTold a b (c ∷ cs) = (c.f ≡ a) × FramesTold (a + 1) b cs

-- of all frames, the lines end to end and the last line are the level report of the album's frames. Proved in
-- proofs/Levels, `levels_of_tracks`
abbrev pub LevelsOfTracks : Type 0
LevelsOfTracks =
    (files : List (List ℕ)) (hs : List Head) (s : Settings) → HeadsOf files hs → decide (open_places hs s) ≡ accepted
    → (cs : List (FrameTold files hs s)) → FramesTold 0 (tracks_frames hs) cs
    → let conv = tracks_converter s hs in
    joined (map lines cs) ++ last_line (tracks_frames hs) (sum (map clips_told cs)) ≡ text_by conv (album_frames files) (lines_of conv (album_frames files))

-- ---- it can be met

pub record AllTold (files : List (List ℕ)) (hs : List Head) (s : Settings) : Type 0 where
  pub calls : List (FrameTold files hs s)
  pub are : FramesTold 0 (tracks_frames hs) calls

-- for every accepted album there are such calls. Proved in proofs/CanBeMet, `levels_told`
abbrev pub LevelsCanBeTold : Type 0
LevelsCanBeTold = (files : List (List ℕ)) (hs : List Head) (s : Settings) → HeadsOf files hs → decide (open_places hs s) ≡ accepted → AllTold files hs s
