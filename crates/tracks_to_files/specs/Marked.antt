-- What the calls of the plan tell of a piece's bytes is what the files of `PlanToFiles` have of them.
use Rattle.std.specs.Prelude.{◌≡◌, List, [], ◌∷◌, ℕ, ◌+◌, ◌<◌, length}
use Rattle.numbers.specs.Lists.{tabulate}
use Rattle.reference.specs.declared.Settings.{Settings}
use Rattle.tracks.specs.Tracks.{Head, tracks_channels, data_start}
use Rattle.tracks_plan.specs.Writes.{write_of, write_numbers, numbers_at}

-- an album's marks, as `marks` tells them
abbrev pub marks_of : List Head → Settings → List ℕ
marks_of hs s = tabulate (data_start s.rate (tracks_channels hs) hs) 0 (length hs + 1)

-- of track k, by the album's marks, and of one file of all, by none and all of its data. Proved in proofs/Marked,
-- `writes_told`
pub record Marked (hs : List Head) (s : Settings) (place bytes : ℕ) : Type 0 where
  pub track : (k : ℕ) → k < length hs
      → numbers_at (marks_of hs s) place bytes k
      ≡ write_numbers (write_of place bytes (data_start s.rate (tracks_channels hs) hs k) (data_start s.rate (tracks_channels hs) hs (k + 1)))
  pub all : (high : ℕ) → numbers_at (0 ∷ high ∷ []) place bytes 0 ≡ write_numbers (write_of place bytes 0 high)

abbrev pub WritesTold : Type 0
WritesTold = (hs : List Head) (s : Settings) (place bytes : ℕ) → Marked hs s place bytes
