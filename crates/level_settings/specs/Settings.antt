-- The level report's first line, RATE CUTOFF CHANNELS DB.
use Rattle.std.specs.Prelude.{◌≡◌, List, [], ◌∷◌, ℕ, ◌≤◌, pos, negsuc, Option, Some, ◌≤ℤ◌}
use Rattle.reference.specs.declared.PcmRate.{PcmRate}
use Rattle.reference.specs.declared.PcmRate.TheVariants.{Hz88200, Hz176400, Hz352800}
use Rattle.reference.specs.declared.Cutoff.{Cutoff}
use Rattle.reference.specs.declared.Cutoff.TheVariants.{Standard, Low, Wide}
use Rattle.text.specs.Text.{text, joined, decimal, signed_decimal}
use Rattle.level_settings.specs.declared.LineSettings.{LineSettings}

unfoldable pub rate_text : PcmRate → List ℕ
rate_text Hz88200 = text "88200"
rate_text Hz176400 = text "176400"
rate_text Hz352800 = text "352800"

unfoldable pub cutoff_text : Cutoff → List ℕ
cutoff_text Standard = text "standard"
cutoff_text Low = text "low"
cutoff_text Wide = text "wide"

abbrev pub blank : List ℕ
blank = 32 ∷ []

-- the line of some settings, without its newline: one blank between, no needless zeros, no -0
unfoldable pub settings_line : LineSettings → List ℕ
settings_line s =
    joined (rate_text s.rate ∷ blank ∷ cutoff_text s.cutoff ∷ blank ∷ decimal s.channels ∷ blank ∷ signed_decimal s.db ∷ [])

-- 1 or 2 channels, -120 to 24 whole decibels
pub record InRange (s : LineSettings) : Type 0 where
  pub one : 1 ≤ s.channels
  pub two : s.channels ≤ 2
  pub lowest : negsuc 119 ≤ℤ s.db
  pub highest : s.db ≤ℤ pos 24

-- what reading a line promises, in both directions: it takes the lines of settings in range, as those settings, and no
-- other line
pub record LineRead (line : List ℕ) (answer : Option LineSettings) : Type 0 where
  pub takes : (s : LineSettings) → InRange s → line ≡ settings_line s → answer ≡ Some s
  pub takes_only : (s : LineSettings) → answer ≡ Some s → InRange s × (line ≡ settings_line s)
