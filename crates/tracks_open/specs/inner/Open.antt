-- What opening promises and asks, and what an accepted album has.
use Rattle.std.specs.Prelude.{◌≡◌, Result, IfOk, List, ℕ, ◌*◌, ◌≤◌, length}
use Rattle.reference.specs.Refusals.{decide}
use Rattle.reference.specs.declared.Settings.{Settings}
use Rattle.tracks.specs.Tracks.{Head, open_places, refused_track}
use Rattle.tracks_open.specs.declared.Album.{Album}
use Rattle.tracks_open.specs.declared.Refused.{Refused}
use Rattle.tracks_open.specs.Open.{album_of, tracks_decision, Names}

-- ---- what is promised

pub record OpenPromise (hs : List Head) (s : Settings) (answer : Result Album Refused) : Type 0 where
  pub decided : tracks_decision answer ≡ decide (open_places hs s)
  pub named : Names (refused_track hs s) answer
  pub album : IfOk answer (λ a. a ≡ album_of s.rate hs)

-- ---- what is asked: 92 bytes for each length, of 1 to 99 tracks

pub record TracksArgs (heads lengths : List ℕ) : Type 0 where
  pub sized : length heads ≡ 92 * length lengths
  pub some : 1 ≤ length lengths
  pub few : length lengths ≤ 99
