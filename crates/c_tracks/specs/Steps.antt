-- What the calls of a step promise: their answer, and what every lent list holds when they return. A primed list is one
-- at exit.
use Rattle.std.specs.Prelude.{◌≡◌, List, ℕ, length, Float}
use Rattle.reference.specs.Output.{samples, s24le}
use Rattle.reference.specs.Refusals.{Decision, decide}
use Rattle.reference.specs.Promises.{by_decision}
use Rattle.reference.specs.declared.Settings.{Settings}
use Rattle.codes.specs.Calls.{CCall}
use Rattle.codes.specs.Told.{ToldWhole}
use Rattle.c_stats.specs.Conversions.{Results, ConversionDone}
use Rattle.tracks.specs.Tracks.{Head, tracks_converter}
use Rattle.tracks_step.specs.Promises.{frames_places, step_places, piece_frames, piece_run}
use Rattle.c_tracks.specs.Asked.{Asked, asked_known, asked_settings, asked_heads}

-- ---- frames gathered: d is what it decides

pub record FramesDone (d : Decision) (hs : List Head) (first count : ℕ) (windows scratch scratch' data' : List ℕ) (decibels' : List Float) (answer : ℕ) : Type 0 where
  pub told : ToldWhole d answer data' decibels'
  pub gathered : scratch' ≡ by_decision d (piece_frames hs first count windows) scratch

abbrev pub FramesCall : Asked → ℕ → ℕ → List ℕ → List ℕ → List ℕ → List ℕ → List ℕ → List Float → List Float → ℕ → Type 0
FramesCall a first count windows scratch scratch' data₀ data' decibels decibels' answer =
    let places = frames_places (asked_heads a) (asked_settings a) first count (length windows) (length scratch) in
    CCall (asked_known a) answer
    ((scratch' ≡ scratch) × (data' ≡ data₀) × (decibels' ≡ decibels))
    (FramesDone (decide places) (asked_heads a) first count windows scratch scratch' data' decibels' answer)

-- ---- a step

-- lists for the frames, and for the samples' bytes
pub record Lists : Type 0 where
  pub scratch : List ℕ
  pub out : List ℕ

abbrev pub lists : List ℕ → List ℕ → Lists
lists s o = record { scratch = s; out = o }

-- d is what it decides
pub record StepDone (d : Decision) (hs : List Head) (s : Settings) (first count : ℕ) (windows : List ℕ) (l l' : Lists) (old new : Results) (answer : ℕ) : Type 0 where
  pub done : ConversionDone d (tracks_converter s hs) (piece_run hs first count windows) old new answer
  pub gathered : l'.scratch ≡ by_decision d (piece_frames hs first count windows) l.scratch
  pub written : l'.out ≡ by_decision d (s24le (samples (tracks_converter s hs) (piece_run hs first count windows))) l.out

abbrev pub StepCall : Asked → ℕ → ℕ → List ℕ → Lists → Lists → Results → Results → ℕ → Type 0
StepCall a first count windows l l' old new answer =
    let places = step_places (asked_heads a) (asked_settings a) first count (length windows) (length l.scratch) (length l.out) in
    CCall (asked_known a) answer
    ((l' ≡ l) × (new ≡ old))
    (StepDone (decide places) (asked_heads a) (asked_settings a) first count windows l l' old new answer)
