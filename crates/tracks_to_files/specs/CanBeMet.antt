-- There are such calls, and such files.
use Rattle.std.specs.Prelude.{◌≡◌, List, ℕ, ◌≤◌, ◌<◌, length}
use Rattle.reference.specs.Refusals.{decide, accepted}
use Rattle.reference.specs.declared.Settings.{Settings}
use Rattle.wave_headers.specs.declared.HeaderKind.{HeaderKind}
use Rattle.tracks.specs.Tracks.{Head, heads, open_places, album_data, track_data}
use Rattle.tracks.specs.Windows.{HeadsOf}
use Rattle.tracks_to_files.specs.Heads.{tracks_of}
use Rattle.tracks_to_files.specs.Calls.{PieceStep, Parts}
use Rattle.tracks_to_files.specs.PlanToFiles.{TrackWritten, AllWritten, file_of}

-- the files that the definition gives hold what calls wrote: no call contradicts another, and by `PlanToFiles` they
-- leave no hole
pub record FilesMeet (files : List (List ℕ)) (hs : List Head) (s : Settings) (parts : List (List (PieceStep files hs s))) : Type 0 where
  pub tracks : (kind : HeaderKind) (k : ℕ) → k < length files → TrackWritten parts kind k (file_of files s kind (track_data (tracks_of files) s k))
  pub all : (kind : HeaderKind) → AllWritten parts kind (file_of files s kind (album_data (tracks_of files) s))

-- whatever calls they are. Proved in proofs/Meeting, `plan_meets`
abbrev pub PlanMeets : Type 0
PlanMeets =
    (files : List (List ℕ)) (hs : List Head) (s : Settings) (jobs : ℕ) (parts : List (List (PieceStep files hs s))) → HeadsOf files hs
    → decide (open_places (heads (tracks_of files)) s) ≡ accepted → 0 < jobs → jobs ≤ 64 → Parts jobs 0 parts → FilesMeet files hs s parts

-- calls for all parts
pub record PlanMet (files : List (List ℕ)) (hs : List Head) (s : Settings) (jobs : ℕ) : Type 0 where
  pub parts : List (List (PieceStep files hs s))
  pub called : Parts jobs 0 parts
  pub files_met : FilesMeet files hs s parts

-- for every accepted album and 1 to 64 jobs. Proved in proofs/CanBeMet, `plan_met`
abbrev pub PlanCanBeMet : Type 0
PlanCanBeMet =
    (files : List (List ℕ)) (hs : List Head) (s : Settings) (jobs : ℕ) → HeadsOf files hs → decide (open_places (heads (tracks_of files)) s) ≡ accepted
    → 0 < jobs → jobs ≤ 64 → PlanMet files hs s jobs
