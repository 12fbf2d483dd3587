-- Calls of `step` with what the plan tells, in the order of the pieces, part by part.
use Rattle.std.specs.Prelude.{◌≡◌, Result, Ok, Err, Some, List, [], ◌∷◌, ℕ, ◌+◌, length}
use Rattle.reference.specs.Statistics.{no_stats}
use Rattle.reference.specs.declared.Settings.{Settings}
use Rattle.reference.specs.declared.ConvertStats.{ConvertStats}
use Rattle.album_parts.specs.Parts.{job_part}
use Rattle.tracks.specs.Tracks.{Head, tracks_channels, tracks_frames}
use Rattle.tracks.specs.Windows.{WindowsOf}
use Rattle.tracks_open.specs.Open.{album_of}
use Rattle.tracks_open.specs.declared.Refused.{Refused}
use Rattle.tracks_plan.specs.Plan.{piece_at}
use Rattle.tracks_plan.specs.declared.cutting.Piece.{Piece}
use Rattle.tracks_step.specs.Promises.{piece_windows, StepPromise}

-- a call of `step` on piece i of the files with these heads, whatever it answered: the windows are the files' stretches
-- that are told, and the lists that are lent are as long as is told
pub record PieceStep (files : List (List ℕ)) (hs : List Head) (s : Settings) : Type 0 where
  pub i : ℕ
  pub piece : Piece
  pub planned : piece_at (album_of s.rate hs) i ≡ Some piece
  pub windows : List ℕ
  pub of_windows : WindowsOf files hs (tracks_channels hs) piece.first piece.count windows
  pub long : length windows ≡ piece_windows hs piece.first piece.count
  pub scratch : List ℕ
  pub scratch' : List ℕ
  pub held : length scratch ≡ piece.scratch
  pub out : List ℕ
  pub out' : List ℕ
  pub lent : length out ≡ piece.bytes
  pub answer : Result ConvertStats Refused
  pub promise : StepPromise hs s piece.first piece.count windows scratch scratch' out out' answer

-- what an answer tells of the samples
abbrev pub stats_of : Result ConvertStats Refused → ConvertStats
stats_of (Ok t) = t
stats_of (Err e) = no_stats

-- calls on pieces a, …, b - 1
abbrev pub Calls : {files : List (List ℕ)} {hs : List Head} {s : Settings} → ℕ → ℕ → List (PieceStep files hs s) → Type 0
Calls a b [] = a ≡ b
Calls a b (c ∷ cs) = (c.i ≡ a) × Calls (a + 1) b cs

-- the calls of parts j, …, jobs - 1, each from its first piece to its end
abbrev pub Parts : {files : List (List ℕ)} {hs : List Head} {s : Settings} → ℕ → ℕ → List (List (PieceStep files hs s)) → Type 0
Parts jobs j [] = j ≡ jobs
Parts {files} {hs} jobs j (p ∷ ps) = Calls (job_part (tracks_frames hs) jobs j).first (job_part (tracks_frames hs) jobs j).end p × Parts jobs (j + 1) ps
