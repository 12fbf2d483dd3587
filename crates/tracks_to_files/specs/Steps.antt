-- A call of `step` that is accepted, on any frames, is a step of `TracksToFiles`: so calls that cut the album in any
-- way give what that says.
use Rattle.std.specs.Prelude.{◌≡◌, Result, List, ℕ}
use Rattle.reference.specs.Refusals.{decide, accepted}
use Rattle.reference.specs.declared.Settings.{Settings}
use Rattle.reference.specs.declared.ConvertStats.{ConvertStats}
use Rattle.tracks.specs.Tracks.{Head, heads, tracks_channels, open_places}
use Rattle.tracks.specs.TracksToFiles.{Step}
use Rattle.tracks.specs.Windows.{HeadsOf, WindowsOf}
use Rattle.tracks_open.specs.Open.{tracks_decision}
use Rattle.tracks_open.specs.declared.Refused.{Refused}
use Rattle.tracks_step.specs.Promises.{StepPromise}
use Rattle.tracks_to_files.specs.Heads.{tracks_of}
use Rattle.tracks_to_files.specs.Calls.{stats_of}

-- a call that was taken, of the files with these heads, out of windows of them
pub record TakenCall (files : List (List ℕ)) (hs : List Head) (s : Settings) : Type 0 where
  pub first : ℕ
  pub count : ℕ
  pub windows : List ℕ
  pub of_windows : WindowsOf files hs (tracks_channels hs) first count windows
  pub scratch : List ℕ
  pub scratch' : List ℕ
  pub out : List ℕ
  pub out' : List ℕ
  pub answer : Result ConvertStats Refused
  pub promise : StepPromise hs s first count windows scratch scratch' out out' answer
  pub taken : tracks_decision answer ≡ accepted

pub record IsStep {files : List (List ℕ)} {hs : List Head} {s : Settings} (c : TakenCall files hs s) : Type 0 where
  pub step : Step (tracks_of files) s
  pub first : step.first ≡ c.first
  pub count : step.count ≡ c.count
  pub out : step.out ≡ c.out'
  pub told : step.told ≡ stats_of c.answer

-- proved in proofs/Steps, `call_is_step`
abbrev pub CallIsStep : Type 0
CallIsStep =
    (files : List (List ℕ)) (hs : List Head) (s : Settings) → HeadsOf files hs → decide (open_places (heads (tracks_of files)) s) ≡ accepted
    → (c : TakenCall files hs s) → IsStep c
