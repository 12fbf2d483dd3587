-- The level sheet of an accepted album is never refused for its widths.
use Rattle.std.specs.Prelude.{◌≡◌, List, ℕ}
use Rattle.reference.specs.Output.{stats}
use Rattle.reference.specs.Refusals.{decide, accepted, refusal_number}
use Rattle.reference.specs.declared.Settings.{Settings}
use Rattle.sheet.specs.Promises.{sheet_places}
use Rattle.sheet_laws.specs.Runs.{ConverterHeld}
use Rattle.tracks.specs.Tracks.{Track, heads, tracks_channels, tracks_run, tracks_converter, open_places}

-- the factor being a binary64 and the taps 117, as every program holds them. Proved in proofs/Sheets,
-- `sheet_not_too_wide`
abbrev pub SheetNotTooWide : Type 0
SheetNotTooWide =
    (ts : List Track) (s : Settings) → ConverterHeld (tracks_converter s (heads ts)) → decide (open_places (heads ts) s) ≡ accepted → (n room : ℕ)
    → refusal_number (decide (sheet_places n (stats (tracks_converter s (heads ts)) (tracks_run (tracks_channels (heads ts)) ts)) room)) ≡ 20 → ⊥
