-- An accepted step of C keeps the promise that the theorem from tracks to files asks of a call
-- (tracks_to_files/specs/Calls), and its statistics come back as they were. An accepted call for frames keeps the one
-- that the theorem of levels asks (levels_of_tracks/specs/Levels). Proved in proofs/Steps.
use Rattle.std.specs.Prelude.{◌≡◌, Ok, true, List, ℕ, Float}
use Rattle.reference.specs.Output.{stats}
use Rattle.tracks.specs.Tracks.{tracks_converter}
use Rattle.tracks_open.specs.Open.{album_of}
use Rattle.tracks_step.specs.Promises.{piece_run, FramesPromise, StepPromise}
use Rattle.c_stats.specs.Conversions.{Results}
use Rattle.c_stats.specs.Stats.{stat_numbers}
use Rattle.c_tracks.specs.Asked.{Asked, asked_known, asked_settings, asked_heads}
use Rattle.c_tracks.specs.Steps.{Lists, FramesCall, StepCall}

abbrev pub StepIsStep : Type 0
StepIsStep =
    (a : Asked) (first count : ℕ) (windows : List ℕ) (l l' : Lists) (old new : Results) → asked_known a ≡ true → StepCall a first count windows l l' old new 0
    → let told = stats (tracks_converter (asked_settings a) (asked_heads a)) (piece_run (asked_heads a) first count windows) in
    StepPromise (asked_heads a) (asked_settings a) first count windows l.scratch l'.scratch l.out l'.out (Ok told) × (new.stats ≡ stat_numbers told)

abbrev pub FramesAreFrames : Type 0
FramesAreFrames =
    (a : Asked) (first count : ℕ) (windows scratch scratch' old new : List ℕ) (decibels decibels' : List Float) → asked_known a ≡ true
    → FramesCall a first count windows scratch scratch' old new decibels decibels' 0
    → FramesPromise (asked_heads a) (asked_settings a) first count windows scratch scratch' (Ok (album_of (asked_settings a).rate (asked_heads a)))
