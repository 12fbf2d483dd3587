-- What the first line leads to.
use Rattle.std.specs.Prelude.{◌≡◌, List, [], ℕ, Option, Some, None}
use Rattle.std.specs.Io.KnownBytes.{Appends}
use Rattle.reference.specs.Settings.{converter_of}
use Rattle.reference.specs.Refusals.{decide, refusal_number, opening_places}
use Rattle.reference.specs.Promises.{by_decision}
use Rattle.reference.specs.declared.Converter.{Converter}
use Rattle.level_lines.specs.Lines.{refused_line}
use Rattle.level_settings.specs.Settings.{InRange, LineRead}
use Rattle.level_settings.specs.declared.LineSettings.{LineSettings}
use Rattle.level_start.specs.Begun.{read_settings, refused_settings, after_line}

-- ---- of settings, or of another first line, which sets nothing

-- the converter of the settings, where it opens
unfoldable pub leads_to : Option LineSettings → Option Converter
leads_to (Some s) = by_decision (decide (opening_places (read_settings s))) (Some (converter_of (read_settings s))) None
leads_to None = None

-- before the lines of frames: a refusal, which stands alone, or nothing
unfoldable pub said : Option LineSettings → List ℕ
said (Some s) =
    let opened = decide (opening_places (read_settings s)) in
    by_decision opened [] (refused_line (refusal_number opened))
said None = refused_settings

-- ---- what a line sets, and what an input

-- a line without its newline: its settings lead to the answer, and what is said of them is appended
pub record Begun (line : List ℕ) (answer : Option Converter) (held held' : Option (List ℕ)) : Type 0 where
  pub first : Option LineSettings
  pub read : LineRead line first
  pub leads : answer ≡ leads_to first
  pub wrote : Appends held held' (said first)

-- what an input sets, in both directions: the settings in range whose line it begins with, and any other input nothing
pub record InputRead (input : List ℕ) (first : Option LineSettings) : Type 0 where
  pub takes : (s : LineSettings) (rest : List ℕ) → InRange s → input ≡ after_line s rest → first ≡ Some s
  pub takes_only : (s : LineSettings) → first ≡ Some s → InRange s × ((rest : List ℕ) × (input ≡ after_line s rest))

-- the same of all that a reader gives
pub record Starts (input : List ℕ) (answer : Option Converter) (held held' : Option (List ℕ)) : Type 0 where
  pub first : Option LineSettings
  pub read : InputRead input first
  pub leads : answer ≡ leads_to first
  pub wrote : Appends held held' (said first)
